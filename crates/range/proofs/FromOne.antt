-- Tests of all numbers from 1 to below n, as all_below of the numbers one less. In order: from each, at each, refuted.
-- Assumes nothing.
use Prim.Native.Nat.{ℕ, zero, suc, ◌-◌, ◌≤◌, ◌<◌}
use native.Mathlib.Omega.{arith}
use mathlib.Core.Path.{◌≡◌}
use mathlib.Core.Bool.{Bool, true, false}
use Rattle.range.specs.Below.{all_below}
use Rattle.range.proofs.Tests.{all_below_of, all_below_at, all_below_not}

module _ (n : ℕ) (f : ℕ → Bool) where
  pub from_one_of : ((u : ℕ) → u < n → 1 ≤ u → f u ≡ true) → all_below (n - 1) (λ u. f (suc u)) ≡ true
  from_one_of e = all_below_of (n - 1) (λ u. f (suc u)) (λ u h. e (suc u) (omega arith) (omega arith))

  pub from_one_at : all_below (n - 1) (λ u. f (suc u)) ≡ true → (u : ℕ) → u < n → 1 ≤ u → f u ≡ true
  from_one_at e zero h l = absurd (omega (arith, l))
  from_one_at e (suc u) h l = all_below_at (n - 1) (λ v. f (suc v)) e u (omega arith)

  pub from_one_not : (u : ℕ) → u < n → 1 ≤ u → f u ≡ false → all_below (n - 1) (λ v. f (suc v)) ≡ false
  from_one_not zero h l e = absurd (omega (arith, l))
  from_one_not (suc u) h l e = all_below_not (n - 1) (λ v. f (suc v)) u (omega arith) e
