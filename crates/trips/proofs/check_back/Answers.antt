-- `trips::check_back` meets its contract: it hands on what encode, partner and check ensure.
-- Assumes nothing.
use Rattle.trips.proofs.TripLaws.{check_trip}
use Rattle.trips.proofs.check_back.Goals as goal

pub returns : goal.returns
returns c =
    check_trip c.encode.ensures c.partner.ensures c.check.ensures
