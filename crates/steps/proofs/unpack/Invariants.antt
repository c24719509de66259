-- `steps::unpack` meets its contract: step after step it takes the digit out of the number.
-- Invariant: the first k of the m steps are taken.  Assumes nothing.
use mathlib.Core.Path.{◌≡◌}
use Rattle.range.specs.Below.{filled}
use Rattle.steps.specs.PathSteps.{step_in}
use Rattle.steps.proofs.unpack.Given as goal

abbrev pub invariant-loop-k : goal.invariant-loop-k
invariant-loop-k l = l.step-items ≡ filled l.k (step_in l.n l.number) l.initial.step-items
