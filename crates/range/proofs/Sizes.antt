-- Sizes of whole numbers: `nat_abs z` is z without its sign. In order: of a negation; of a sum of two; of a sum below
-- n. Not here: `mag`, which is one less for a negative number (SumsSigned).  Assumes nothing.
use Prim.Native.Nat.{ℕ, zero, suc, ◌+◌, ◌-◌, ◌*◌, ◌≤◌, ◌<◌, zero-le, suc-le-suc}
use native.Mathlib.Nat.{suc-mul, le_refl}
use native.Mathlib.Omega.{arith}
use mathlib.Core.Path.{◌≡◌, refl}
use mathlib.Core.Bool.{Bool, true, false, cond}
use lib.Dec.{ltb}
use lib.IntN.{ℤ, pos, negsuc, neg_ℤ, nat_abs, sub_ℕ, ◌+ℤ◌}
use Rattle.range.specs.Signed.{sumℤ, negated_if}

pub nat_abs_neg : (z : ℤ) → nat_abs (neg_ℤ z) ≡ nat_abs z
nat_abs_neg (pos zero) = refl
nat_abs_neg (pos (suc a)) = refl
nat_abs_neg (negsuc a) = refl

pub nat_abs_negated_if : (t : Bool) (z : ℤ) → nat_abs (negated_if t z) ≡ nat_abs z
nat_abs_negated_if true z = nat_abs_neg z
nat_abs_negated_if false z = refl

nat_abs_cond : (t : Bool) (x y : ℤ) (w : ℕ) → nat_abs x ≤ w → nat_abs y ≤ w → nat_abs (cond t x y) ≤ w
nat_abs_cond true x y w p q = p
nat_abs_cond false x y w p q = q

nat_abs_subℕ : (a b : ℕ) → nat_abs (sub_ℕ a (suc b)) ≤ a + suc b
nat_abs_subℕ a b =
    nat_abs_cond (ltb a (suc b)) (negsuc (suc b - suc a)) (pos (a - suc b)) (a + suc b) (omega arith) (omega arith)

nat_abs_add : (x y : ℤ) → nat_abs (x +ℤ y) ≤ nat_abs x + nat_abs y
nat_abs_add (pos a) (pos b) = le_refl (a + b)
nat_abs_add (pos a) (negsuc b) = nat_abs_subℕ a b
nat_abs_add (negsuc a) (pos b) = omega (arith, nat_abs_subℕ b a)
nat_abs_add (negsuc a) (negsuc b) = omega arith

-- a bound on the size of each summand bounds that of the sum
pub nat_abs_sumℤ : (n b : ℕ) (f : ℕ → ℤ) → ((i : ℕ) → i < n → nat_abs (f i) ≤ b) → nat_abs (sumℤ n f) ≤ n * b
unfolding sumℤ
nat_abs_sumℤ zero b f h = zero-le
nat_abs_sumℤ (suc n) b f h =
    let rest = nat_abs_sumℤ n b (λ i. f (suc i)) (λ i l. h (suc i) (suc-le-suc l)) in
    omega (arith, nat_abs_add (f zero) (sumℤ n (λ i. f (suc i))), h zero (suc-le-suc zero-le), rest, suc-mul n b)
