-- Laws of sumℤ and negated_if, and of magnitudes. In order: a sum of two sums regrouped; equal summands; sums of sums,
-- of negations, of differences, of summands that one test negates; the summands at even and at odd indices; the
-- magnitude of a sum, of a difference.
-- Not here: sums of natural numbers (Sums).  Assumes nothing.
use Prim.Native.Nat.{ℕ, zero, suc, ◌+◌, ◌-◌, ◌<◌, ◌≤◌, zero-le, suc-le-suc}
use native.Mathlib.Nat.{suc-add, add-suc}
use native.Mathlib.Omega.{arith}
use mathlib.Core.Path.{◌≡◌, refl, sym, ◌∙◌, ap}
use mathlib.Core.Bool.{Bool, true, false, cond}
use lib.Dec.{ltb}
use lib.IntN.{ℤ, pos, negsuc, neg_ℤ, sub_ℕ, ◌+ℤ◌, ◌-ℤ◌, +ℤ_assoc, +ℤ_comm, neg_ℤ-+ℤ}
use lib.Signed.{mag}
use Rattle.range.specs.Signed.{sumℤ, negated_if}

-- the two inner summands change places
pub +ℤ_swap : (a b c d : ℤ) → (a +ℤ b) +ℤ (c +ℤ d) ≡ (a +ℤ c) +ℤ (b +ℤ d)
+ℤ_swap a b c d =
    let inner : b +ℤ (c +ℤ d) ≡ c +ℤ (b +ℤ d) =
    sym (+ℤ_assoc b c d) ∙ ap (λ x. x +ℤ d) (+ℤ_comm b c) ∙ +ℤ_assoc c b d in
    +ℤ_assoc a b (c +ℤ d) ∙ ap (λ x. a +ℤ x) inner ∙ sym (+ℤ_assoc a c (b +ℤ d))

pub sumℤ_cong : (n : ℕ) (f g : ℕ → ℤ) → ((i : ℕ) → i < n → f i ≡ g i) → sumℤ n f ≡ sumℤ n g
unfolding sumℤ
sumℤ_cong zero f g e = refl
sumℤ_cong (suc n) f g e =
    let rest = sumℤ_cong n (λ i. f (suc i)) (λ i. g (suc i)) (λ i h. e (suc i) (suc-le-suc h)) in
    rw (e zero (suc-le-suc zero-le), rest)

pub sumℤ_add : (n : ℕ) (f g : ℕ → ℤ) → sumℤ n f +ℤ sumℤ n g ≡ sumℤ n (λ i. f i +ℤ g i)
unfolding sumℤ
sumℤ_add zero f g = refl
sumℤ_add (suc n) f g =
    +ℤ_swap (f 0) (sumℤ n (λ i. f (suc i))) (g 0) (sumℤ n (λ i. g (suc i)))
    ∙ ap (λ x. (f 0 +ℤ g 0) +ℤ x) (sumℤ_add n (λ i. f (suc i)) (λ i. g (suc i)))

pub sumℤ_neg : (n : ℕ) (f : ℕ → ℤ) → neg_ℤ (sumℤ n f) ≡ sumℤ n (λ i. neg_ℤ (f i))
unfolding sumℤ
sumℤ_neg zero f = refl
sumℤ_neg (suc n) f =
    neg_ℤ-+ℤ (f 0) (sumℤ n (λ i. f (suc i))) ∙ ap (λ x. neg_ℤ (f 0) +ℤ x) (sumℤ_neg n (λ i. f (suc i)))

pub sumℤ_negated_if : (b : Bool) (n : ℕ) (f : ℕ → ℤ) → negated_if b (sumℤ n f) ≡ sumℤ n (λ i. negated_if b (f i))
sumℤ_negated_if true n f = sumℤ_neg n f
sumℤ_negated_if false n f = refl

-- the summands at even indices, and those at odd ones
pub sumℤ_even_odd : (n : ℕ) (f : ℕ → ℤ) →
    sumℤ (n + n) f ≡ sumℤ n (λ i. f (i + i)) +ℤ sumℤ n (λ i. f (suc (i + i)))
unfolding sumℤ
sumℤ_even_odd zero f = refl
sumℤ_even_odd (suc n) f =
    let e : ℤ = sumℤ n (λ i. f (suc (suc (i + i)))) in
    let o : ℤ = sumℤ n (λ i. f (suc (suc (suc (i + i))))) in
    let rest : sumℤ (n + n) (λ i. f (suc (suc i))) ≡ e +ℤ o = sumℤ_even_odd n (λ i. f (suc (suc i))) in
    simp (suc-add, add-suc) (rw rest (sym (+ℤ_assoc (f 0) (f 1) (e +ℤ o)) ∙ +ℤ_swap (f 0) (f 1) e o))

mag_cond : (c : Bool) (x y : ℤ) (w : ℕ) → mag x < w → mag y < w → mag (cond c x y) < w
mag_cond true x y w p q = p
mag_cond false x y w p q = q

-- a difference of two natural numbers that lies from -w to w - 1
mag_subℕ : (a b w : ℕ) → a < b + w → b ≤ a + w → mag (sub_ℕ a b) < w
mag_subℕ a b w p q = mag_cond (ltb a b) (negsuc (b - suc a)) (pos (a - b)) w (omega arith) (omega arith)

-- the same, written as a difference of whole numbers
pub mag_difference : (a b w : ℕ) → a < b + w → b ≤ a + w → mag (pos a -ℤ pos b) < w
mag_difference a zero w p q = omega arith
mag_difference a (suc b) w p q = mag_subℕ a (suc b) w p q

pub mag_add : (a b : ℤ) (w : ℕ) → mag a < w → mag b < w → mag (a +ℤ b) < w + w
mag_add (pos a) (pos b) w p q = omega arith
mag_add (pos a) (negsuc b) w p q = mag_subℕ a (suc b) (w + w) (omega arith) (omega arith)
mag_add (negsuc a) (pos b) w p q = mag_subℕ b (suc a) (w + w) (omega arith) (omega arith)
mag_add (negsuc a) (negsuc b) w p q = omega arith

pub mag_sub : (a b : ℤ) (w : ℕ) → mag a < w → mag b < w → mag (a -ℤ b) < w + w
mag_sub (pos a) (pos zero) w p q = omega arith
mag_sub (pos a) (pos (suc b)) w p q = mag_subℕ a (suc b) (w + w) (omega arith) (omega arith)
mag_sub (pos a) (negsuc b) w p q = omega arith
mag_sub (negsuc a) (pos zero) w p q = mag_subℕ 0 (suc a) (w + w) (omega arith) (omega arith)
mag_sub (negsuc a) (pos (suc b)) w p q = omega arith
mag_sub (negsuc a) (negsuc b) w p q = mag_subℕ (suc b) (suc a) (w + w) (omega arith) (omega arith)
