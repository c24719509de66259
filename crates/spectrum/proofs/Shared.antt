-- How many ones two places share, digit by digit, and the sign that it gives: rules' Spectrum. In order: the ones
-- shared, from those of half of each place; so too where the first place is even and where it is odd; odd and its sign
-- for one more; for a last digit more.
-- Not here: the digits of half a place (places' Digits), the sum over the places (Entries).  Assumes nothing.
use Prim.Native.Nat.{ℕ, suc, ◌+◌, ◌-◌, ◌*◌, ◌/◌, ◌%◌}
use native.Mathlib.Nat.{add-zero}
use native.Mathlib.Numerals.{add-one}
use native.Mathlib.Omega.{arith}
use mathlib.Core.Path.{◌≡◌, refl, sym, ◌∙◌}
use mathlib.Core.Bool.{Bool, true, false, not}
use lib.IntN.{ℤ, neg_ℤ, neg_ℤ-neg_ℤ}
use Rattle.range.specs.Signed.{negated_if}
use Rattle.range.proofs.Bits.{bit_cases}
use Rattle.range.proofs.Sums.{sum_below_suc, sum_below_cong}
use Rattle.rules.specs.Place.{digit}
use Rattle.rules.specs.Spectrum.{odd, shared}
use Rattle.places.proofs.Digits.{digit_last, digit_half}

-- the last digits share a one where both are 1
pub shared_half : (m i j : ℕ) → shared (suc m) i j ≡ shared m (i / 2) (j / 2) + i % 2 * (j % 2)
unfolding shared
shared_half m i j =
    let f : ℕ → ℕ = λ k. digit (suc m) i (suc k) * digit (suc m) j (suc k) in
    let g : ℕ → ℕ = λ k. digit m (i / 2) (suc k) * digit m (j / 2) (suc k) in
    let rest = sum_below_cong m f g (λ k h. rw (digit_half m i (suc k) h, digit_half m j (suc k) h)) in
    sum_below_suc m f ∙ rw (rest, digit_last (suc m) i, digit_last (suc m) j)

pub shared_even : (m b j : ℕ) → shared (suc m) (b + b) j ≡ shared m b (j / 2)
shared_even m b j =
    let q : (b + b) / 2 ≡ b = omega arith in
    let r : (b + b) % 2 ≡ 0 = omega arith in
    shared_half m (b + b) j ∙ rw (q, r) (omega arith)

pub shared_odd : (m b j : ℕ) → shared (suc m) (suc (b + b)) j ≡ shared m b (j / 2) + j % 2
shared_odd m b j =
    let q : suc (b + b) / 2 ≡ b = omega arith in
    let r : suc (b + b) % 2 ≡ 1 = omega arith in
    shared_half m (suc (b + b)) j ∙ rw (q, r) (omega arith)

-- one more is odd where it was even
pub odd_suc : (n : ℕ) → odd (suc n) ≡ not (odd n)
odd_suc n =
    let e : suc n % 2 ≡ 1 - n % 2 = omega arith in
    rw e (bit_cases (n % 2) (omega arith) (λ d. rw d) (λ d. rw d))

pub negated_if_not : (b : Bool) (z : ℤ) → negated_if (not b) z ≡ neg_ℤ (negated_if b z)
negated_if_not true z = sym (neg_ℤ-neg_ℤ z)
negated_if_not false z = refl

-- the last digit of j negates once more
pub negated_if_odd_add : (n j : ℕ) (z : ℤ) → negated_if (odd (n + j % 2)) z ≡ negated_if (odd j) (negated_if (odd n) z)
negated_if_odd_add n j z =
    bit_cases (j % 2) (omega arith) (λ e. rw (e, add-zero)) (λ e. rw (e, add-one, odd_suc n) (negated_if_not (odd n) z))
