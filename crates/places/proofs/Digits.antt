-- Laws of the digits of a place: rules' Place. In order: bounds; the last digit and the others, and the place from its
-- digits; bits of a power of two, and of a sum with one; the digits of place 0, and of a place with one digit 1 alone.
-- Not here: two places that differ in one digit (Twins), one digit turned over (Flips); words' labels (Labels) and
-- words (Readings).  Assumes nothing.
use Prim.Native.Nat.{ℕ, zero, suc, ◌+◌, ◌-◌, ◌/◌, ◌%◌, ◌^◌, ◌≤◌, ◌<◌}
use native.Mathlib.Nat.{zero-div, div_self, div-eq_of_lt, pow-suc, mul-mod_left, mul-add-div, add-zero, le_refl}
use native.Mathlib.Nat.{sub_self, div-one, div-div-eq-div-mul, pow-succ'}
use native.Mathlib.Decide.{dec_lt}
use native.Mathlib.Omega.{arith}
use mathlib.Core.Path.{◌≡◌, sym, ◌∙◌, ap}
use mathlib.Core.Logic.{◌≢◌}
use lib.Pow.{pow_pos, pow-lt, pow-add}
use Rattle.rules.specs.Shape.{carriers}
use Rattle.rules.specs.Place.{digit}

pub digit_lt : (m i k : ℕ) → digit m i k < 2
unfolding digit
digit_lt m i k = omega arith

-- the place with digit k alone is a place
pub one_lt : (m k : ℕ) → 1 ≤ k → k ≤ m → 2 ^ (m - k) < 2 ^ m
one_lt m k a b = pow-lt (omega arith)

-- the last digit
pub digit_last : (m i : ℕ) → digit m i m ≡ i % 2
unfolding digit
digit_last m i = rw (sub_self, div-one)

-- the other digits are those of half the place
pub digit_half : (m i k : ℕ) → k ≤ m → digit (suc m) i k ≡ digit m (i / 2) k
unfolding digit
digit_half m i k h =
    let e : suc m - k ≡ suc (m - k) = omega arith in
    rw (e, pow-succ' 2 (m - k), ← (div-div-eq-div-mul i 2 (2 ^ (m - k))))

-- the digits determine the place
pub place_by_digits : (m i j : ℕ) → i < carriers m → j < carriers m →
    ((k : ℕ) → 1 ≤ k → k ≤ m → digit m i k ≡ digit m j k) → i ≡ j
place_by_digits zero i j a b e = omega arith
place_by_digits (suc m) i j a b e =
    let half : i / 2 ≡ j / 2 =
    place_by_digits m (i / 2) (j / 2) (omega (arith, pow-suc 2 m)) (omega (arith, pow-suc 2 m))
    (λ k l h. sym (digit_half m i k h) ∙ e k l (omega arith) ∙ digit_half m j k h) in
    let last : i % 2 ≡ j % 2 =
    sym (digit_last (suc m) i) ∙ e (suc m) (omega arith) (le_refl (suc m)) ∙ digit_last (suc m) j in
    omega arith

pow_even : (d : ℕ) → 0 < d → 2 ^ d % 2 ≡ 0
pow_even zero h = omega arith
pow_even (suc d) h = rw pow-suc (mul-mod_left (2 ^ d) 2)

pow_over : (x u s : ℕ) → u ≤ s → (2 ^ s + x) / 2 ^ u ≡ 2 ^ (s - u) + x / 2 ^ u
pow_over x u s h =
    let e : s ≡ u + (s - u) = omega arith in
    ap (λ (n : ℕ). (n + x) / 2 ^ u) (ap (λ (n : ℕ). 2 ^ n) e ∙ pow-add 2 u (s - u))
    ∙ mul-add-div (pow_pos u) (2 ^ (s - u)) x

-- below the power's own bit, the other summand decides
pub bit_below : (x u s : ℕ) → u < s → (2 ^ s + x) / 2 ^ u % 2 ≡ x / 2 ^ u % 2
bit_below x u s h = rw (pow_over x u s (omega arith)) (omega (arith, pow_even (s - u) (omega arith)))

one_off : (t u : ℕ) → u ≢ t → Dec (u < t) → 2 ^ t / 2 ^ u % 2 ≡ 0
one_off t u n (yes h) = rw (← (add-zero (2 ^ t))) (bit_below 0 u t h ∙ rw zero-div)
one_off t u n (no g) = rw (div-eq_of_lt (pow-lt {i = t} {j = u} (omega arith)))

pub digit_zero : (m k : ℕ) → digit m 0 k ≡ 0
unfolding digit
digit_zero m k = rw zero-div

pub digit_one_at : (m k : ℕ) → digit m (2 ^ (m - k)) k ≡ 1
unfolding digit
digit_one_at m k = rw (div_self (pow_pos (m - k)))

pub digit_one_off : (m k j : ℕ) → k ≤ m → j ≤ m → j ≢ k → digit m (2 ^ (m - k)) j ≡ 0
unfolding digit
digit_one_off m k j a b n = one_off (m - k) (m - j) (omega arith) (dec_lt (m - j) (m - k))
