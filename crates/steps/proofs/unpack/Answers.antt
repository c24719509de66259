-- `steps::unpack` meets its contract: step after step it takes the digit out of the number.
-- Assumes nothing.
use Prim.Native.Nat.{ℕ}
use native.Mathlib.Omega.{arith}
use mathlib.Core.Path.{refl, ap}
use mathlib.Core.List.{List, ◌++◌}
use lib.ListN.{replicate, drop}
use lib.Seq.{length-take-le}
use Rattle.range.proofs.Filled.{filled_zero, filled_turn, filled_end}
use Rattle.rules.specs.Shape.{greatest_m}
use Rattle.steps.specs.PathSteps.{unpacked}
use Rattle.steps.proofs.unpack.Goals as goal

pub loop-k-init : goal.loop-k-init
loop-k-init c = filled_zero _ _

pub loop-k-preserved : goal.loop-k-preserved
loop-k-preserved c = filled_turn c.loop-k.k _ _ _ _ c.loop-k-test.true c.loop-k.invariant refl

pub returns : goal.returns
unfolding unpacked
returns c =
    let zeros : List ℕ = replicate greatest_m 0 in
    let all = length-take-le c.args.m zeros c.requires in
    ap (λ (p : List ℕ). p ++ drop c.args.m zeros)
    (filled_end c.args.m c.loop-k.k _ _ _ all (omega (arith, all, c.loop-k-test.false)) c.loop-k.invariant)
