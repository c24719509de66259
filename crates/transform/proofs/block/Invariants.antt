-- `transform::block` meets its contract: a turn writes a place of each half, as the stage does.
-- Invariant: both halves are written up to i, and the rest outside the block stands.  Assumes nothing.
use Rattle.range.specs.Signed.{entry}
use Rattle.transform.specs.Butterflies.{butterfly}
use Rattle.transform.proofs.Halves.{Halved}
use Rattle.transform.proofs.block.Given as goal

abbrev pub invariant-loop-i : goal.invariant-loop-i
invariant-loop-i g l = Halved (butterfly g.row.S (entry l.from)) l.initial.to g.row.S l.p l.to l.i
