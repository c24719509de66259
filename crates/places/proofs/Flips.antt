-- One digit of a place, x_k, turned over.
-- Defines:  flip m k i    place i with its digit x_k turned over
-- In order: it, where the digit is 0 and where it is 1; it is a place; its digits; turned over twice; two places with
-- the same digit x_k keep their distance, and their digits balance; a sum over the places with the digit turned over.
-- Not here: the two places as a first and a second (Twins), sums over any involution (range's Involutions).
-- Assumes nothing.
use Prim.Native.Nat.{ℕ, ◌+◌, ◌-◌, ◌^◌, ◌≤◌, ◌<◌}
use native.Mathlib.Decide.{ℕ_discrete}
use native.Mathlib.Omega.{arith}
use mathlib.Core.Path.{◌≡◌, sym, ◌∙◌}
use mathlib.Core.Logic.{◌≢◌}
use mathlib.Core.Bool.{cond}
use lib.Dec.{eqb}
use Rattle.range.specs.Below.{sum_below}
use Rattle.range.proofs.Bits.{bit_cases}
use Rattle.range.proofs.Involutions.{sum_below_involution}
use Rattle.rules.specs.Shape.{carriers}
use Rattle.rules.specs.Place.{digit}
use Rattle.places.proofs.Digits.{digit_lt}
use Rattle.places.proofs.Twins.{digit_zero_lt, digit_one_le, digit_second, digit_first, place_second}
use Rattle.places.proofs.Twins.{digit_second_off, digit_first_off}

-- place i with its digit x_k turned over
unfoldable pub flip : ℕ → ℕ → ℕ → ℕ
flip m k i = cond (eqb (digit m i k) 0) (i + 2 ^ (m - k)) (i - 2 ^ (m - k))

pub flip_zero : (m k i : ℕ) → digit m i k ≡ 0 → flip m k i ≡ i + 2 ^ (m - k)
unfolding flip
flip_zero m k i e = rw e

pub flip_one : (m k i : ℕ) → digit m i k ≡ 1 → flip m k i ≡ i - 2 ^ (m - k)
unfolding flip
flip_one m k i e = rw e

-- what holds where the digit is 0, and where it is 1, holds
digit_cases : {P : Type 0} (m i k : ℕ) → (digit m i k ≡ 0 → P) → (digit m i k ≡ 1 → P) → P
digit_cases m i k f g = bit_cases (digit m i k) (digit_lt m i k) f g

pub flip_lt : (m k i : ℕ) → 1 ≤ k → k ≤ m → i < carriers m → flip m k i < carriers m
flip_lt m k i a b l =
    digit_cases m i k (λ e. rw (flip_zero m k i e) (digit_zero_lt m k i a b l e))
    (λ e. rw (flip_one m k i e) (omega arith))

pub digit_flip_at : (m k i : ℕ) → digit m i k + digit m (flip m k i) k ≡ 1
digit_flip_at m k i =
    digit_cases m i k (λ e. rw (flip_zero m k i e, digit_second m k i e, e))
    (λ e. rw (flip_one m k i e, digit_first m k i e, e))

pub digit_flip_off : (m k j i : ℕ) → k ≤ m → j ≤ m → j ≢ k → digit m (flip m k i) j ≡ digit m i j
digit_flip_off m k j i a b n =
    digit_cases m i k (λ e. rw (flip_zero m k i e) (digit_second_off m k j i a b n e))
    (λ e. rw (flip_one m k i e) (digit_first_off m k j i a b n e))

pub flip_flip : (m k i : ℕ) → flip m k (flip m k i) ≡ i
flip_flip m k i =
    digit_cases m i k
    (λ e. rw (flip_zero m k i e, flip_one m k (i + 2 ^ (m - k)) (digit_second m k i e)) (omega arith))
    (λ e. rw (flip_one m k i e, flip_zero m k (i - 2 ^ (m - k)) (digit_first m k i e)) (place_second m k i e))

-- two places with the same digit keep their distance
pub flip_shift : (m k i j u : ℕ) → digit m i k ≡ digit m j k → j ≡ i + u → flip m k j ≡ flip m k i + u
flip_shift m k i j u s d =
    digit_cases m i k (λ e. rw (flip_zero m k i e, flip_zero m k j (sym s ∙ e)) (omega arith))
    (λ e. rw (flip_one m k i e, flip_one m k j (sym s ∙ e)) (omega (arith, digit_one_le m k i e)))

-- and balance: i and j turned over have of every digit what i turned over and j have
pub digit_flip_balance : (m k i j r : ℕ) → k ≤ m → r ≤ m → digit m i k ≡ digit m j k →
    digit m i r + digit m (flip m k j) r ≡ digit m (flip m k i) r + digit m j r
digit_flip_balance m k i j r a b s = at (ℕ_discrete r k)
  where
    at : Dec (r ≡ k) → digit m i r + digit m (flip m k j) r ≡ digit m (flip m k i) r + digit m j r
    at (yes e) = rw e (omega (arith, s, digit_flip_at m k i, digit_flip_at m k j))
    at (no n) = rw (digit_flip_off m k r i a b n, digit_flip_off m k r j a b n)

pub sum_below_flip : (m k : ℕ) (f : ℕ → ℕ) → 1 ≤ k → k ≤ m →
    sum_below (carriers m) (λ i. f (flip m k i)) ≡ sum_below (carriers m) f
sum_below_flip m k f a b =
    sum_below_involution (carriers m) (flip m k) f (λ i l. flip_lt m k i a b l) (λ i _. flip_flip m k i)
