-- Soft values that are all zero: every correlation is zero, for two and four phases and every m.
-- In order: a zero value is heard as zero; zeros sum to zero; the correlation; two labels at least; message 0's label;
-- the answer, the best of equals.
-- Assumes nothing.
use Prim.Native.Nat.{ℕ, zero, suc, ◌+◌, ◌*◌, ◌<◌, ◌≤◌}
use native.Mathlib.Nat.{mul-zero, pow-le-pow_right, lt_of_lt_of_le, le_refl, mul-le-mul, suc-ne-zero, not-suc-le-zero}
use native.Mathlib.Omega.{arith}
use mathlib.Core.Path.{◌≡◌, refl, sym, ◌∙◌, ap}
use mathlib.Core.Bool.{Bool, true, false, cond}
use mathlib.Core.List.{List}
use lib.Dec.{eqb, lit≤}
use lib.IntN.{ℤ, pos}
use lib.ListN.{replicate}
use Rattle.range.specs.Signed.{sumℤ, negated_if, entry}
use Rattle.range.proofs.SumsSigned.{sumℤ_cong}
use Rattle.range.proofs.Shifts.{sumℤ_const}
use Rattle.rules.specs.Shape.{carriers, message_bits}
use Rattle.rules.specs.Label.{labels, label_of}
use Rattle.rules.specs.Word.{word_at}
use Rattle.rules.specs.Soft.{heard, heard_two, heard_four, correlation, soft_length}
use Rattle.rules.specs.Decoding.{Loud}
use Rattle.rules.proofs.BestLaws.{tied_of_another}

zeros : ℕ → List ℤ
zeros n = replicate n (pos 0)

zeros_at : (n i : ℕ) → entry (zeros n) i ≡ pos 0
unfolding zeros
zeros_at zero i = refl
zeros_at (suc n) zero = refl
zeros_at (suc n) (suc i) = zeros_at n i

signed_zero : (b : Bool) → negated_if b (pos 0) ≡ pos 0
signed_zero true = refl
signed_zero false = refl

heard_four_zero : (s : ℕ) → heard_four (pos 0) (pos 0) s ≡ pos 0
heard_four_zero zero = refl
heard_four_zero (suc zero) = refl
heard_four_zero (suc (suc zero)) = refl
heard_four_zero (suc (suc (suc s))) = refl

cond_same : (b : Bool) (x y z : ℤ) → x ≡ z → y ≡ z → cond b x y ≡ z
cond_same true x y z p q = p
cond_same false x y z p q = q

heard_zero : (h n i s : ℕ) → heard h (zeros n) i s ≡ pos 0
unfolding heard
heard_zero h n i s =
    rw (zeros_at n i, zeros_at n (2 * i), zeros_at n (2 * i + 1))
    (cond_same (eqb h 1) (heard_two (pos 0) s) (heard_four (pos 0) (pos 0) s) (pos 0) (signed_zero (eqb s 1))
    (heard_four_zero s))

sumℤ_zero : (n : ℕ) (f : ℕ → ℤ) → ((i : ℕ) → f i ≡ pos 0) → sumℤ n f ≡ pos 0
sumℤ_zero n f e = sumℤ_cong n f (λ _. pos 0) (λ i _. e i) ∙ sumℤ_const n 0 ∙ ap pos (mul-zero n)

correlation_zero : (h m n l : ℕ) → correlation h m (zeros n) l ≡ pos 0
unfolding correlation
correlation_zero h m n l =
    sumℤ_zero (carriers m) (λ i. heard h (zeros n) i (word_at h m l i)) (λ i. heard_zero h n i (word_at h m l i))

-- a shape has at least two labels
pub labels_two : (h m : ℕ) → 1 ≤ h → 1 < labels h m
labels_two h m one =
    let b : 1 ≤ message_bits h m =
    omega (arith, mul-le-mul {n₁ = 1} {m₁ = 1} {n₂ = h} {m₂ = m + 1} one (omega arith)) in
    lt_of_lt_of_le (le_refl 2) (pow-le-pow_right {n = 2} (lit≤ tt) {i = 1} {j = message_bits h m} b)

label_of_zero : (h m : ℕ) → label_of h m 0 ≡ 0
unfolding label_of
label_of_zero h m = refl

-- 01: any soft shape, all zeros
pub loud_of_zeros : (h m : ℕ) → 1 ≤ h →
    Loud h m (replicate (soft_length h m) (pos 0)) (record { message = 0; value = pos 0; tied = true })
unfolding zeros
loud_of_zeros h m one =
    let two : 1 < labels h m = labels_two h m one in
    let value : ℕ → ℤ = correlation h m (zeros (soft_length h m)) in
    let all : (l : ℕ) → value l ≡ pos 0 = correlation_zero h m (soft_length h m) in
    record {
      inside = omega arith;
      best = rw (label_of_zero h m) (record {
        inside = omega arith;
        attained = sym (all 0);
        best = λ k _. rw (all k) tt;
        earliest = λ k b. absurd (not-suc-le-zero b);
      });
      tie = rw (label_of_zero h m) (tied_of_another (labels h m) value 0 (pos 0) 1 two (suc-ne-zero 0) (all 1));
    }
