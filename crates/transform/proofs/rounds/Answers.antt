-- `transform::rounds` meets its contract: stage after stage, the area that holds the last one is read and the other is
-- written. Invariant: what stands between the areas after k stages. Measure: the stages left.
-- Assumes nothing.
use Prim.Native.Nat.{ℕ, ◌%◌}
use native.Mathlib.Omega.{arith}
use mathlib.Core.Path.{◌≡◌, ◌∙◌}
use Rattle.rules.proofs.RefusalLaws.{TransformTaken, transform_taken}
use Rattle.transform.proofs.Between.{between_none, between_first, between_second, between_stride}
use Rattle.transform.proofs.Between.{between_even, between_odd, between_reads_first, between_reads_second}
use Rattle.transform.proofs.rounds.Goals.{Start, then-k-eq0, else-k-eq0}
use Rattle.transform.proofs.rounds.Goals as goal

-- a number that is not even
odd_of : (k : ℕ) → (k % 2 ≡ 0 → ⊥) → k % 2 ≡ 1
odd_of k n = omega arith

-- nothing is refused, and what that says
taken : (c : Start) → TransformTaken c.args.m c.args.first.now c.args.second.now
taken c = transform_taken _ _ _ c.requires.second_value

pub loop-k-init : goal.loop-k-init
loop-k-init c = between_none _ _ _ _ (taken (goal.at.loop-k-init c).Start) c.requires.n_value

pub stage-requires-clause-readable : goal.stage-requires-clause-readable
stage-requires-clause-readable c =
    between_reads_first _ _ _ _ (taken (goal.at.stage-requires-clause-readable c).Start) c.requires.n_value _ _ _ _
    c.loop-k.invariant c.loop-k-test.true c.if-k-eq0.true

pub stage-requires-clause-stride : goal.stage-requires-clause-stride
stage-requires-clause-stride c =
    between_stride _ _ _ _ (taken (goal.at.stage-requires-clause-stride c).Start) c.requires.n_value _ _ _ _
    c.loop-k.invariant c.loop-k-test.true

pub stage-requires-else-k-eq0-clause-stride : goal.stage-requires-else-k-eq0-clause-stride
stage-requires-else-k-eq0-clause-stride c =
    between_stride _ _ _ _ (taken (goal.at.stage-requires-else-k-eq0-clause-stride c).Start) c.requires.n_value _ _ _ _
    c.loop-k.invariant c.loop-k-test.true

pub stage-requires-clause-n_in_bounds : goal.stage-requires-clause-n_in_bounds
stage-requires-clause-n_in_bounds c =
    let t = taken (goal.at.stage-requires-clause-n_in_bounds c).Start in
    let size = c.requires.n_value in
    omega (arith, t.second, size, between_second _ _ _ _ t size _ _ _ _ c.loop-k.invariant)

pub stage-requires-else-k-eq0-clause-readable : goal.stage-requires-else-k-eq0-clause-readable
stage-requires-else-k-eq0-clause-readable c =
    between_reads_second _ _ _ _ (taken (goal.at.stage-requires-else-k-eq0-clause-readable c).Start)
    c.requires.n_value _ _ _ _ c.loop-k.invariant c.loop-k-test.true (odd_of c.loop-k.k c.if-k-eq0.false)

pub stage-requires-else-k-eq0-clause-n_in_bounds : goal.stage-requires-else-k-eq0-clause-n_in_bounds
stage-requires-else-k-eq0-clause-n_in_bounds c =
    let t = taken (goal.at.stage-requires-else-k-eq0-clause-n_in_bounds c).Start in
    let size = c.requires.n_value in
    omega (arith, t.first, size, between_first _ _ _ _ t size _ _ _ _ c.loop-k.invariant)

pub loop-k-preserved : goal.loop-k-preserved
loop-k-preserved c =
    let t = taken (goal.at.loop-k-preserved c).Start in
    let size = c.requires.n_value in
    elim c.if-k-eq0.branch [
      | then-k-eq0 w ↦ rw w.first-is
          (between_even _ _ _ _ t size _ _ _ _ c.loop-k.invariant c.loop-k-test.true w.if-k-eq0.true _
          (w.second-is ∙ w.stage.ensures))
      | else-k-eq0 w ↦ rw w.second-is
          (between_odd _ _ _ _ t size _ _ _ _ c.loop-k.invariant c.loop-k-test.true
          (odd_of c.loop-k.k w.if-k-eq0.false) _ (w.first-is ∙ w.stage-else-k-eq0.ensures))
    ]
