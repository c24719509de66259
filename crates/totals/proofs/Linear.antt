-- A linear form by the digits of its coefficients' number: coefficient j is digit j of a number to base q, and x_j is
-- digit j of a place. In order: the definition; the highest digits and the others; what stands above the digits that
-- are read does not matter; one digit more on top; no coefficients.
-- Not here: the linear part of a label's form (Words).  Assumes nothing.
use Prim.Native.Nat.{ℕ, zero, suc, ◌+◌, ◌-◌, ◌*◌, ◌/◌, ◌%◌, ◌^◌, ◌<◌}
use native.Mathlib.Nat.{suc-sub-suc, pow-succ', mul_assoc, zero-mul, one-le-pow, zero-div, zero-mod, mod-eq_of_lt}
use native.Mathlib.Nat.{mul-add-div_right, mul-add-mod_self_right}
use native.Mathlib.Omega.{arith}
use mathlib.Core.Path.{◌≡◌, refl, sym, ◌∙◌}
use lib.Arith.{digits_div}
use Rattle.range.specs.Below.{sum_below}
use Rattle.range.proofs.Sums.{sum_below_zero}

-- the k coefficients are the lowest k digits of r to base q, the highest first, and the place is z
unfoldable pub linear_at : ℕ → ℕ → ℕ → ℕ → ℕ
linear_at q k r z = sum_below k (λ j. r / q ^ (k - suc j) % q * (z / 2 ^ (k - suc j) % 2))

linear_at_suc : (q k r z : ℕ) → linear_at q (suc k) r z ≡ r / q ^ k % q * (z / 2 ^ k % 2) + linear_at q k r z
unfolding linear_at sum_below
linear_at_suc q k r z =
    let e : suc k - 1 ≡ k = omega arith in
    simp (e, suc-sub-suc)

pow_above : (q k a : ℕ) → a * q ^ suc k ≡ a * q * q ^ k
pow_above q k a = rw (pow-succ' q k) (sym (mul_assoc a q (q ^ k)))

-- digit k of a number does not change with what stands above it
digit_below : (q k a r : ℕ) → 0 < q → (a * q * q ^ k + r) / q ^ k % q ≡ r / q ^ k % q
digit_below q k a r p = rw (mul-add-div_right (one-le-pow k q p) (a * q) r) (mul-add-mod_self_right a q (r / q ^ k))

pub linear_at_below : (q k a r b z : ℕ) → 0 < q → linear_at q k (a * q ^ k + r) (b * 2 ^ k + z) ≡ linear_at q k r z
unfolding linear_at sum_below
linear_at_below q zero a r b z p = refl
linear_at_below q (suc k) a r b z p =
    rw (pow_above q k a, pow_above 2 k b) (linear_at_suc q k (a * q * q ^ k + r) (b * 2 * 2 ^ k + z)
    ∙ rw (digit_below q k a r p, digit_below 2 k b z (omega arith), linear_at_below q k (a * q) r (b * 2) z p)
    (sym (linear_at_suc q k r z)))

linear_at_top : (q k c r b z : ℕ) → c < q → r < q ^ k → b < 2 → z < 2 ^ k →
    linear_at q (suc k) (c * q ^ k + r) (b * 2 ^ k + z) ≡ c * b + linear_at q k r z
linear_at_top q k c r b z lc lr lb lz =
    linear_at_suc q k (c * q ^ k + r) (b * 2 ^ k + z)
    ∙ rw (digits_div c lr, digits_div b lz, mod-eq_of_lt lc, mod-eq_of_lt lb, linear_at_below q k c r b z (omega arith))

-- with coefficient c on top, in the first and in the second half of the places
pub linear_at_first : (q k c r z : ℕ) → c < q → r < q ^ k → z < 2 ^ k →
    linear_at q (suc k) (c * q ^ k + r) z ≡ linear_at q k r z
linear_at_first q k c r z lc lr lz =
    let e : 0 * 2 ^ k + z ≡ z = omega arith in
    (rw e at (linear_at_top q k c r 0 z lc lr (omega arith) lz)) ∙ omega arith

pub linear_at_second : (q k c r z : ℕ) → c < q → r < q ^ k → z < 2 ^ k →
    linear_at q (suc k) (c * q ^ k + r) (2 ^ k + z) ≡ c + linear_at q k r z
linear_at_second q k c r z lc lr lz =
    let e : 1 * 2 ^ k + z ≡ 2 ^ k + z = omega arith in
    (rw e at (linear_at_top q k c r 1 z lc lr (omega arith) lz)) ∙ omega arith

pub linear_at_zero : (q k z : ℕ) → linear_at q k 0 z ≡ 0
unfolding linear_at
linear_at_zero q k z = sum_below_zero k _ (λ j b. rw (zero-div, zero-mod) (zero-mul _))
