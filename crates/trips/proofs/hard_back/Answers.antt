-- `trips::hard_back` meets its contract: it hands on what encode and hard ensure.
-- Assumes nothing.
use Rattle.trips.proofs.TripLaws.{hard_trip}
use Rattle.trips.proofs.hard_back.Goals as goal

pub returns : goal.returns
returns c =
    hard_trip c.encode.ensures c.hard.ensures
