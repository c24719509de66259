-- A stage reads places below 2^m alone: rules' Spectrum. In order: one stage of equal values; one stage more, from what
-- equals the values after k stages.
-- Not here: what the values are (Entries), how great they are (Bounds).  Assumes nothing.
use Prim.Native.Nat.{ℕ, suc, ◌+◌, ◌-◌, ◌^◌, ◌≤◌, ◌<◌}
use native.Mathlib.Omega.{arith}
use mathlib.Core.Path.{◌≡◌, sym, ◌∙◌}
use lib.IntN.{ℤ}
use Rattle.rules.specs.Shape.{carriers}
use Rattle.rules.specs.Spectrum.{stage, stages}
use Rattle.spectrum.proofs.StagePairs.{stage_first, stage_second, pairs_all}

pub stage_cong : (m k : ℕ) (y z : ℕ → ℤ) → ((i : ℕ) → i < carriers m → y i ≡ z i) → (i : ℕ) → 1 ≤ k → k ≤ m →
    i < carriers m → stage m k y i ≡ stage m k z i
stage_cong m k y z same i a b l =
    let s : ℕ = 2 ^ (m - k) in
    pairs_all m k a b (λ j. stage m k y j ≡ stage m k z j) (λ j e u v. (
      stage_first m k y j e ∙ rw (same j u, same (j + s) v) (sym (stage_first m k z j e)),
      stage_second m k y j e ∙ rw (same j u, same (j + s) v) (sym (stage_second m k z j e)),
    )) i l

pub stages_turn : (m k : ℕ) (y z : ℕ → ℤ) → ((i : ℕ) → i < carriers m → z i ≡ stages m k y i) → (i : ℕ) → suc k ≤ m →
    i < carriers m → stage m (suc k) z i ≡ stages m (suc k) y i
unfolding stages
stages_turn m k y z same i h l = stage_cong m (suc k) z (stages m k y) same i (omega arith) h l
