-- `Rest::list` ends. Measure: the room that the list has left.
-- Assumes nothing.
use Prim.Native.Nat.{◌-◌}
use lib.ListN.{length}
use Rattle.lines.specs.declared.rest.TheConstants.{MOST}
use Rattle.lines.proofs.rest.Rest.list.Given as goal

abbrev pub decreases-loop-list : goal.decreases-loop-list
decreases-loop-list g l = MOST - length l.list.items
