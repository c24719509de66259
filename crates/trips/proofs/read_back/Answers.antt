-- `trips::read_back` meets its contract: it hands on what encode and read ensure.
-- Assumes nothing.
use Rattle.trips.proofs.TripLaws.{read_trip}
use Rattle.trips.proofs.read_back.Goals as goal

pub returns : goal.returns
returns c =
    read_trip c.encode.ensures c.read.ensures
