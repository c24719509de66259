-- What a word shows of its label: rules' Word. At place 0 it shows the constant, and at the place with digit k alone it
-- shows c_k more. In order: links where no two neighbours have digit 1; paths on the digits; the links, the linear
-- parts and the forms at these places; the words there; the coefficient read back.
-- Not here: that the word determines its label (distances' Inject).  Assumes nothing.
use Prim.Native.Nat.{ℕ, zero, suc, ◌+◌, ◌-◌, ◌*◌, ◌%◌, ◌^◌, ◌≤◌, ◌<◌, suc-le-suc}
use native.Mathlib.Nat.{mul-zero, zero-mul, mul-one, mod-eq_of_lt}
use native.Mathlib.Decide.{ℕ_discrete}
use native.Mathlib.Omega.{arith}
use mathlib.Core.Path.{◌≡◌, refl, sym, ◌∙◌}
use mathlib.Core.Logic.{◌≢◌}
use mathlib.Core.List.{List, [], ◌∷◌}
use lib.ListN.{length, get_or}
use Rattle.range.specs.Below.{sum_below}
use Rattle.range.proofs.Sums.{sum_below_zero, sum_below_only}
use Rattle.rules.specs.Shape.{phases}
use Rattle.rules.specs.Place.{digit}
use Rattle.rules.specs.Path.{path_at}
use Rattle.rules.specs.Label.{label_path, coefficient, constant}
use Rattle.rules.specs.Word.{links, form_at, word_at}
use Rattle.rules.specs.Pair.{minus}
use Rattle.rules.proofs.Differences.{minus_of_sum}
use Rattle.places.proofs.Digits.{digit_zero, digit_one_at, digit_one_off}
use Rattle.words.proofs.Labels.{coefficient_lt, constant_lt}

links_zero : (x : ℕ → ℕ) (p : List ℕ) →
    ((i : ℕ) → suc i < length p → x (get_or p i 0) * x (get_or p (suc i) 0) ≡ 0) → links x p ≡ 0
unfolding links
links_zero x [] e = refl
links_zero x (a ∷ []) e = refl
links_zero x (a ∷ (b ∷ p)) e =
    omega (arith, e 0 (omega arith), links_zero x (b ∷ p) (λ i l. e (suc i) (suc-le-suc l)))

-- a path on the digits: its elements are numbers of digits, and neighbours differ
pub record Good (m : ℕ) (p : List ℕ) : Type 0 where
  pub within : (i : ℕ) → i < length p → get_or p i 0 ≤ m
  pub apart : (i : ℕ) → suc i < length p → get_or p i 0 ≢ get_or p (suc i) 0

links_digit_zero : (m : ℕ) (p : List ℕ) → links (digit m 0) p ≡ 0
links_digit_zero m p = links_zero (digit m 0) p (λ i l. rw (digit_zero m (get_or p i 0)) (zero-mul _))

-- one of two different digits is not digit k
one_product : (m k a b : ℕ) → k ≤ m → a ≤ m → b ≤ m → a ≢ b → Dec (a ≡ k) →
    digit m (2 ^ (m - k)) a * digit m (2 ^ (m - k)) b ≡ 0
one_product m k a b l la lb n (yes e) = rw (digit_one_off m k b l lb (omega arith)) (mul-zero _)
one_product m k a b l la lb n (no e) = rw (digit_one_off m k a l la e) (zero-mul _)

links_digit_one : (m k : ℕ) (p : List ℕ) → Good m p → k ≤ m → links (digit m (2 ^ (m - k))) p ≡ 0
links_digit_one m k p g l = links_zero (digit m (2 ^ (m - k))) p (λ i b.
    one_product m k (get_or p i 0) (get_or p (suc i) 0) l (g.within i (omega arith)) (g.within (suc i) b) (g.apart i b)
    (ℕ_discrete (get_or p i 0) k))

-- the links of label l at place i
abbrev pub linked : ℕ → ℕ → ℕ → ℕ → ℕ
linked h m l i = links (digit m i) (path_at m (label_path h m l))

-- the linear part of the form at place i
abbrev pub linear : ℕ → ℕ → ℕ → ℕ → ℕ
linear h m l i = sum_below m (λ k. coefficient h m l (suc k) * digit m i (suc k))

linear_zero : (h m l : ℕ) → linear h m l 0 ≡ 0
linear_zero h m l = sum_below_zero m _ (λ k b. rw (digit_zero m (suc k)) (mul-zero _))

linear_one : (h m l k : ℕ) → k < m → linear h m l (2 ^ (m - suc k)) ≡ coefficient h m l (suc k)
linear_one h m l k b =
    sum_below_only m k _ b (λ j c d. rw (digit_one_off m (suc k) (suc j) b c (omega arith)) (mul-zero _))
    ∙ rw (digit_one_at m (suc k)) (mul-one _)

form_at_zero : (h m l : ℕ) → form_at h m l 0 ≡ constant h l
unfolding form_at
form_at_zero h m l = rw (links_digit_zero, linear_zero h m l, mul-zero) (omega arith)

pub word_at_zero : (h m l : ℕ) → word_at h m l 0 ≡ constant h l
unfolding word_at
word_at_zero h m l = rw form_at_zero (mod-eq_of_lt (constant_lt h l))

-- a + b less b, modulo q
minus_summand : (q a b : ℕ) → a < q → b < q → minus q ((a + b) % q) b ≡ a
minus_summand q a b la lb =
    rw (mod-eq_of_lt la, mod-eq_of_lt lb) at (minus_of_sum q a (a + b) b (omega arith) refl)

module _ (h m l : ℕ) (good : Good m (path_at m (label_path h m l))) where
  form_at_one : (k : ℕ) → 1 ≤ k → k ≤ m → form_at h m l (2 ^ (m - k)) ≡ coefficient h m l k + constant h l
  unfolding form_at
  form_at_one zero a b = omega arith
  form_at_one (suc k) a b = rw (links_digit_one m (suc k) _ good b, linear_one h m l k b, mul-zero) (omega arith)

  word_at_one : (k : ℕ) → 1 ≤ k → k ≤ m →
      word_at h m l (2 ^ (m - k)) ≡ (coefficient h m l k + constant h l) % phases h
  unfolding word_at
  word_at_one k a b = rw (form_at_one k a b)

  pub coefficient_read : (k : ℕ) → 1 ≤ k → k ≤ m →
      coefficient h m l k ≡ minus (phases h) (word_at h m l (2 ^ (m - k))) (word_at h m l 0)
  coefficient_read k a b =
      rw (word_at_one k a b, word_at_zero)
      (sym (minus_summand (phases h) (coefficient h m l k) (constant h l) (coefficient_lt h m l k) (constant_lt h l)))
