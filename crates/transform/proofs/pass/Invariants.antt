-- `transform::pass` meets its contract: block after block is written.
-- Invariant: a block begins at p, and all before it is written. Measure: the entries left.
-- Assumes nothing.
use Prim.Native.Nat.{◌≤◌}
use Rattle.range.specs.Below.{Fills}
use Rattle.range.specs.Signed.{entry}
use Rattle.transform.specs.Butterflies.{butterfly, Start}
use Rattle.transform.proofs.pass.Given as goal

abbrev pub invariant-loop-p : goal.invariant-loop-p
invariant-loop-p g l =
    Start g.row.S l.p × (l.p ≤ l.n) × Fills (butterfly g.row.S (entry l.from)) l.initial.to 0 l.to l.p
