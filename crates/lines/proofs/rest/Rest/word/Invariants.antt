-- `Rest::word` ends. Measure: the room that the word has left.
-- Assumes nothing.
use Prim.Native.Nat.{◌-◌}
use lib.ListN.{length}
use Rattle.lines.specs.declared.rest.TheConstants.{MOST}
use Rattle.lines.proofs.rest.Rest.word.Given as goal

abbrev pub decreases-loop-word : goal.decreases-loop-word
decreases-loop-word l = MOST - length l.word.items
