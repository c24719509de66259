-- The two places of a pair that a stage works on: rules' Spectrum. In order: blocks of twice as many places; what a
-- stage writes at both; what holds at both places of every pair holds at every place.
-- Not here: where the two places stand, and their digits (crate places, Twins), pairs counted by blocks (Blocks), what
-- the stages make of them (Entries).  Assumes nothing.
use Prim.Native.Nat.{ℕ, ◌+◌, ◌-◌, ◌*◌, ◌^◌, ◌≤◌, ◌<◌}
use native.Mathlib.Nat.{mul_assoc}
use native.Mathlib.Omega.{arith}
use mathlib.Core.Path.{◌≡◌, sym, ◌∙◌, ap, subst}
use lib.IntN.{ℤ, ◌+ℤ◌, ◌-ℤ◌}
use Rattle.range.proofs.Bits.{bit_cases}
use Rattle.rules.specs.Shape.{carriers}
use Rattle.rules.specs.Place.{digit}
use Rattle.rules.specs.Spectrum.{stage}
use Rattle.places.proofs.Twins.{digit_zero_lt, digit_second, place_second, digit_first}

-- b blocks of twice s places
pub double_mul : (b s : ℕ) → b * (2 * s) ≡ (b + b) * s
double_mul b s =
    let d : b * 2 ≡ b + b = omega arith in
    sym (mul_assoc b 2 s) ∙ ap (λ (n : ℕ). n * s) d

-- what stage k writes at the two places of a pair
module _ (m k : ℕ) (y : ℕ → ℤ) (i : ℕ) (e : digit m i k ≡ 0) where
  pub stage_first : stage m k y i ≡ y i +ℤ y (i + 2 ^ (m - k))
  unfolding stage
  stage_first = rw e

  pub stage_second : stage m k y (i + 2 ^ (m - k)) ≡ y i -ℤ y (i + 2 ^ (m - k))
  unfolding stage
  stage_second =
      let b : i + 2 ^ (m - k) - 2 ^ (m - k) ≡ i = omega arith in
      rw (digit_second m k i e, b)

-- what holds at both places of every pair holds at every place
module _ (m k : ℕ) (a : 1 ≤ k) (b : k ≤ m) (P : ℕ → Type 0)
    (f : (i : ℕ) → digit m i k ≡ 0 → i < carriers m → i + 2 ^ (m - k) < carriers m → P i × P (i + 2 ^ (m - k))) where
  at_first : (i : ℕ) → i < carriers m → digit m i k ≡ 0 → P i
  at_first i l e = (f i e l (digit_zero_lt m k i a b l e)).0

  at_second : (i : ℕ) → i < carriers m → digit m i k ≡ 1 → P i
  at_second i l e =
      let q = place_second m k i e in
      subst P q (f (i - 2 ^ (m - k)) (digit_first m k i e) (omega arith) (omega arith)).1

  pub pairs_all : (i : ℕ) → i < carriers m → P i
  unfolding digit
  pairs_all i l = bit_cases (digit m i k) (omega arith) (at_first i l) (at_second i l)
