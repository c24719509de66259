-- Two places that differ in one digit, x_k: the first has 0 there, and the second, 2^(m-k) on, has 1. In order: the
-- places counted in blocks; the second place of a pair is a place, and stands behind the first; the digit x_k of both;
-- their other digits, which are the same.
-- Not here: the digits of a place with one digit 1 alone (Digits), from either place to the other (Flips).
-- Assumes nothing.
use Prim.Native.Nat.{ℕ, zero, suc, ◌+◌, ◌-◌, ◌*◌, ◌/◌, ◌%◌, ◌^◌, ◌≤◌, ◌<◌}
use native.Mathlib.Nat.{div-lt_iff_lt-mul, le-div_iff_mul-le, add-div_right, add_comm, pow-suc}
use native.Mathlib.Decide.{dec_lt}
use native.Mathlib.Omega.{arith}
use mathlib.Core.Path.{◌≡◌, sym, ◌∙◌, ap}
use mathlib.Core.Logic.{◌≢◌}
use lib.Pow.{pow_pos, pow-add, shr-shr}
use Rattle.rules.specs.Shape.{carriers}
use Rattle.rules.specs.Place.{digit}
use Rattle.places.proofs.Digits.{bit_below}

-- 2^m places are 2^k blocks of 2^(m-k) places
pub carriers_blocks : (m k : ℕ) → k ≤ m → carriers m ≡ 2 ^ k * 2 ^ (m - k)
carriers_blocks m k h =
    let e : m ≡ k + (m - k) = omega arith in
    ap (λ (n : ℕ). 2 ^ n) e ∙ pow-add 2 k (m - k)

second_lt : (n s i : ℕ) → 0 < s → i / s % 2 ≡ 0 → i < n * 2 * s → i + s < n * 2 * s
second_lt n s i p e l =
    let q : i / s < n * 2 = (div-lt_iff_lt-mul p).1 l in
    (div-lt_iff_lt-mul p).0 (rw (add-div_right i p) (omega arith))

-- the second place of a pair is a place
pub digit_zero_lt : (m k i : ℕ) → 1 ≤ k → k ≤ m → i < carriers m → digit m i k ≡ 0 → i + 2 ^ (m - k) < carriers m
unfolding digit
digit_zero_lt m zero i a b l e = absurd (omega arith)
digit_zero_lt m (suc k) i a b l e =
    let c : carriers m ≡ 2 ^ k * 2 * 2 ^ (m - suc k) = carriers_blocks m (suc k) b ∙ rw pow-suc in
    rw c (second_lt (2 ^ k) (2 ^ (m - suc k)) i (pow_pos (m - suc k)) e (rw c at l))

-- the first place of a pair stands before the second
pub digit_one_le : (m k i : ℕ) → digit m i k ≡ 1 → 2 ^ (m - k) ≤ i
unfolding digit
digit_one_le m k i e =
    let one : 1 * 2 ^ (m - k) ≤ i = (le-div_iff_mul-le (pow_pos (m - k))).0 (omega arith) in
    omega arith

-- the digits of the second place of a pair, and of the first
pub digit_second : (m k i : ℕ) → digit m i k ≡ 0 → digit m (i + 2 ^ (m - k)) k ≡ 1
unfolding digit
digit_second m k i e = rw (add-div_right i (pow_pos (m - k))) (omega arith)

pub place_second : (m k i : ℕ) → digit m i k ≡ 1 → i - 2 ^ (m - k) + 2 ^ (m - k) ≡ i
place_second m k i e = omega (arith, digit_one_le m k i e)

pub digit_first : (m k i : ℕ) → digit m i k ≡ 1 → digit m (i - 2 ^ (m - k)) k ≡ 0
unfolding digit
digit_first m k i e =
    let j : ℕ = i - 2 ^ (m - k) in
    let q : i / 2 ^ (m - k) ≡ j / 2 ^ (m - k) + 1 =
    ap (λ (n : ℕ). n / 2 ^ (m - k)) (sym (place_second m k i e)) ∙ add-div_right j (pow_pos (m - k)) in
    omega arith

-- a bit that is 0, set to 1, shows in no higher bit
bit_over : (x s u : ℕ) → s < u → x / 2 ^ s % 2 ≡ 0 → (x + 2 ^ s) / 2 ^ u ≡ x / 2 ^ u
bit_over x s u h e =
    let d : ℕ = u - suc s in
    let p : u ≡ s + (1 + d) = omega arith in
    let q : (x / 2 ^ s + 1) / 2 ≡ x / 2 ^ s / 2 = omega arith in
    rw (p, ← (shr-shr (x + 2 ^ s) s (1 + d)), ← (shr-shr x s (1 + d)), add-div_right x (pow_pos s))
    (sym (shr-shr (x / 2 ^ s + 1) 1 d) ∙ ap (λ (n : ℕ). n / 2 ^ d) q ∙ shr-shr (x / 2 ^ s) 1 d)

digit_off : (m k j i : ℕ) → k ≤ m → j ≤ m → j ≢ k → digit m i k ≡ 0 → Dec (j < k) →
    digit m (i + 2 ^ (m - k)) j ≡ digit m i j
unfolding digit
digit_off m k j i a b n e (yes h) = ap (λ (t : ℕ). t % 2) (bit_over i (m - k) (m - j) (omega arith) e)
digit_off m k j i a b n e (no g) = rw (add_comm i (2 ^ (m - k))) (bit_below i (m - j) (m - k) (omega arith))

-- every other digit is the same at both places
pub digit_second_off : (m k j i : ℕ) → k ≤ m → j ≤ m → j ≢ k → digit m i k ≡ 0 →
    digit m (i + 2 ^ (m - k)) j ≡ digit m i j
digit_second_off m k j i a b n e = digit_off m k j i a b n e (dec_lt j k)

pub digit_first_off : (m k j i : ℕ) → k ≤ m → j ≤ m → j ≢ k → digit m i k ≡ 1 →
    digit m (i - 2 ^ (m - k)) j ≡ digit m i j
digit_first_off m k j i a b n e =
    sym (digit_second_off m k j (i - 2 ^ (m - k)) a b n (digit_first m k i e))
    ∙ ap (λ (t : ℕ). digit m t j) (place_second m k i e)
