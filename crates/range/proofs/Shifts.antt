-- Natural numbers and whole numbers a constant apart. In order: sums of natural numbers as whole numbers; two
-- differences added; sums of differences, and of a constant; sums whose summands are a constant apart; taking the
-- constant away, and putting it back; equal differences; two numbers, both raised by one constant: they are equal
-- exactly where the raised ones are, and in order where those are.
-- Not here: other laws of sums (Sums, SumsSigned).  Assumes nothing.
use Prim.Native.Nat.{ℕ, zero, suc, ◌+◌, ◌-◌, ◌*◌, ◌≤◌, ◌<◌}
use native.Mathlib.Omega.{arith}
use mathlib.Core.Path.{◌≡◌, refl, sym, ◌∙◌, ap}
use mathlib.Core.Bool.{Bool, true, false, cond}
use mathlib.Core.Logic.{◌↔◌}
use lib.Dec.{T, ltb, le→leb}
use lib.IntN.{ℤ, pos, negsuc, neg_ℤ, nat_abs, ◌+ℤ◌, ◌-ℤ◌, +ℤ_assoc, +ℤ_comm, +ℤ-neg_ℤ_cancel}
use lib.IntN.{neg_ℤ-+ℤ, -ℤ-+ℤ_cancel}
use lib.Signed.{le_z}
use borrow.Author.Tests.{ltb-true, ltb-false}
use Rattle.range.specs.Below.{sum_below}
use Rattle.range.specs.Signed.{sumℤ}
use Rattle.range.proofs.Sums.{sum_below_const}
use Rattle.range.proofs.SumsSigned.{+ℤ_swap, sumℤ_cong, sumℤ_add, sumℤ_neg}

pub sumℤ_pos : (n : ℕ) (f : ℕ → ℕ) → sumℤ n (λ i. pos (f i)) ≡ pos (sum_below n f)
unfolding sumℤ sum_below
sumℤ_pos zero f = refl
sumℤ_pos (suc n) f = rw (sumℤ_pos n (λ i. f (suc i)))

pub differences_add : (p q r s : ℕ) → (pos p -ℤ pos q) +ℤ (pos r -ℤ pos s) ≡ pos (p + r) -ℤ pos (q + s)
differences_add p q r s =
    +ℤ_swap (pos p) (neg_ℤ (pos q)) (pos r) (neg_ℤ (pos s))
    ∙ ap (λ z. pos (p + r) +ℤ z) (sym (neg_ℤ-+ℤ (pos q) (pos s)))

pub sumℤ_difference : (n : ℕ) (f g : ℕ → ℕ) →
    sumℤ n (λ i. pos (f i) -ℤ pos (g i)) ≡ pos (sum_below n f) -ℤ pos (sum_below n g)
sumℤ_difference n f g =
    sym (sumℤ_add n (λ i. pos (f i)) (λ i. neg_ℤ (pos (g i))))
    ∙ rw (sumℤ_pos n f, ← sumℤ_neg n (λ i. pos (g i)), sumℤ_pos n g)

pub sumℤ_const : (n c : ℕ) → sumℤ n (λ _. pos c) ≡ pos (n * c)
sumℤ_const n c = sumℤ_pos n (λ _. c) ∙ ap pos (sum_below_const n c)

pub sumℤ_shift : (n c : ℕ) (f g : ℕ → ℤ) → ((i : ℕ) → i < n → f i ≡ pos c +ℤ g i) → sumℤ n f ≡ pos (n * c) +ℤ sumℤ n g
sumℤ_shift n c f g e =
    sumℤ_cong n f (λ i. pos c +ℤ g i) e
    ∙ sym (sumℤ_add n (λ _. pos c) g)
    ∙ ap (λ z. z +ℤ sumℤ n g) (sumℤ_const n c)

-- summands a natural number below the constant
pub sumℤ_less : (n c : ℕ) (f : ℕ → ℤ) (d : ℕ → ℕ) → ((i : ℕ) → i < n → f i ≡ pos c -ℤ pos (d i)) →
    sumℤ n f ≡ pos (n * c) -ℤ pos (sum_below n d)
sumℤ_less n c f d e =
    sumℤ_shift n c f (λ i. neg_ℤ (pos (d i))) e
    ∙ ap (λ z. pos (n * c) +ℤ z) (sym (sumℤ_neg n (λ i. pos (d i))) ∙ ap neg_ℤ (sumℤ_pos n d))

pub shift_back : (a b : ℕ) (z : ℤ) → pos a ≡ pos b +ℤ z → z ≡ pos a -ℤ pos b
shift_back a b z e = rw (e, +ℤ_comm (pos b) z) (sym (+ℤ-neg_ℤ_cancel z (pos b)))

pub shift_difference : (a b : ℕ) → pos a ≡ pos b +ℤ (pos a -ℤ pos b)
shift_difference a b = sym (+ℤ_comm (pos b) (pos a -ℤ pos b) ∙ -ℤ-+ℤ_cancel (pos a) (pos b))

pub differences_equal : (p q r s : ℕ) → p + s ≡ r + q → pos p -ℤ pos q ≡ pos r -ℤ pos s
differences_equal p q r s e =
    let f : r + q ≡ s + p = omega arith in
    shift_back r s (pos p -ℤ pos q) (sym (+ℤ-neg_ℤ_cancel (pos r) (pos q)) ∙ ap (λ (k : ℕ). pos k -ℤ pos q) f
    ∙ +ℤ_assoc (pos s) (pos p) (neg_ℤ (pos q)))

le_z_cond : (s t : Bool) (a b c : ℕ) → ltb a c ≡ s → ltb b c ≡ t → a ≤ b →
    T (le_z (cond s (negsuc (c - suc a)) (pos (a - c))) (cond t (negsuc (c - suc b)) (pos (b - c))))
le_z_cond true true a b c p q l = le→leb (c - suc b) (c - suc a) (omega arith)
le_z_cond true false a b c p q l = tt
le_z_cond false true a b c p q l = absurd (omega (arith, ltb-false a c p, ltb-true b c q))
le_z_cond false false a b c p q l = le→leb (a - c) (b - c) (omega arith)

-- the constant is taken away
le_z_less : (a b c : ℕ) → a ≤ b → T (le_z (pos a -ℤ pos c) (pos b -ℤ pos c))
le_z_less a b zero l = le→leb (a + 0) (b + 0) (omega arith)
le_z_less a b (suc c) l = le_z_cond (ltb a (suc c)) (ltb b (suc c)) a b (suc c) refl refl l

module _ (a b c : ℕ) (x y : ℤ) (p : pos a ≡ pos c +ℤ x) (q : pos b ≡ pos c +ℤ y) where
  pub shift_equal : (x ≡ y) ↔ (a ≡ b)
  shift_equal = (
    λ e. ap nat_abs (p ∙ ap (λ z. pos c +ℤ z) e ∙ sym q),
    λ e. shift_back a c x p ∙ ap (λ (t : ℕ). pos t -ℤ pos c) e ∙ sym (shift_back b c y q),
  )

  pub shift_le : a ≤ b → T (le_z x y)
  shift_le l = rw (shift_back a c x p, shift_back b c y q) (le_z_less a b c l)
