-- Sums of sums, sums by values, and sums over an involution: a map of the numbers below n that undoes itself.
-- Defines:  taken n d e k    how many of d 0, e 0, .., d (n - 1), e (n - 1) are k
-- In order: the two sums of a sum of sums change places; the summand that a test picks; a sum by how often each value
-- is taken; under an involution each number is the image of one, and the sum over it is the sum; two maps whose values
-- are taken as often as their images.
-- Not here: other laws of sums (Sums), sums over a square (Squares).  Assumes nothing.
use Prim.Native.Nat.{ℕ, zero, suc, ◌+◌, ◌*◌, ◌<◌}
use native.Mathlib.Nat.{mul-zero, mul-one, mul-add}
use native.Mathlib.Omega.{arith}
use mathlib.Core.Path.{◌≡◌, refl, sym, ◌∙◌, ap}
use lib.Dec.{eqb}
use borrow.Author.Tests.{eq-eqb, ne_eqb}
use Rattle.range.specs.Below.{sum_below, count_below, one_if}
use Rattle.range.proofs.Sums.{sum_below_cong, sum_below_zero, sum_below_only, sum_below_sum, sum_below_mul}
use Rattle.range.proofs.Tests.{eqb_of_iff}

sum_below_swap : (n k : ℕ) (f : ℕ → ℕ → ℕ) →
    sum_below n (λ i. sum_below k (λ j. f i j)) ≡ sum_below k (λ j. sum_below n (λ i. f i j))
unfolding sum_below
sum_below_swap zero k f = sym (sum_below_zero k (λ _. 0) (λ _ _. refl))
sum_below_swap (suc n) k f =
    ap (λ (t : ℕ). sum_below k (λ j. f 0 j) + t) (sum_below_swap n k (λ i j. f (suc i) j))
    ∙ sum_below_sum k (λ j. f 0 j) (λ j. sum_below n (λ i. f (suc i) j))

-- the test k = j picks the summand at k
sum_below_pick : (n k : ℕ) (f : ℕ → ℕ) → k < n → sum_below n (λ j. f j * one_if (eqb k j)) ≡ f k
sum_below_pick n k f l =
    sum_below_only n k (λ j. f j * one_if (eqb k j)) l (λ j _ d. rw (ne_eqb k j (λ e. d (sym e))) (mul-zero (f j)))
    ∙ rw (eq-eqb k k refl) (mul-one (f k))

-- by the values k of d, each as often as it is taken
sum_below_by_values : (n q : ℕ) (d f : ℕ → ℕ) → ((i : ℕ) → i < n → d i < q) →
    sum_below n (λ i. f (d i)) ≡ sum_below q (λ k. f k * count_below n (λ i. eqb (d i) k))
unfolding count_below
sum_below_by_values n q d f lt =
    sum_below_cong n (λ i. f (d i)) (λ i. sum_below q (λ k. f k * one_if (eqb (d i) k)))
    (λ i l. sym (sum_below_pick q (d i) f (lt i l)))
    ∙ sum_below_swap n q (λ i k. f k * one_if (eqb (d i) k))
    ∙ sum_below_cong q _ (λ k. f k * sum_below n (λ i. one_if (eqb (d i) k)))
    (λ k _. sum_below_mul n (f k) (λ i. one_if (eqb (d i) k)))

module _ (n : ℕ) (σ : ℕ → ℕ) (lt : (i : ℕ) → i < n → σ i < n) (back : (i : ℕ) → i < n → σ (σ i) ≡ i) where
  eqb_involution : (i k : ℕ) → i < n → k < n → eqb (σ i) k ≡ eqb (σ k) i
  eqb_involution i k a b =
      eqb_of_iff (σ i) k (σ k) i (λ e. ap σ (sym e) ∙ back i a) (λ e. ap σ (sym e) ∙ back k b)

  -- k is the image of one number alone
  count_below_image : (k : ℕ) → k < n → count_below n (λ i. eqb (σ i) k) ≡ 1
  unfolding count_below
  count_below_image k b =
      sum_below_cong n (λ i. one_if (eqb (σ i) k)) (λ i. 1 * one_if (eqb (σ k) i))
      (λ i a. rw (eqb_involution i k a b) (omega arith))
      ∙ sum_below_pick n (σ k) (λ _. 1) (lt k b)

pub sum_below_involution : (n : ℕ) (σ f : ℕ → ℕ) → ((i : ℕ) → i < n → σ i < n) →
    ((i : ℕ) → i < n → σ (σ i) ≡ i) → sum_below n (λ i. f (σ i)) ≡ sum_below n f
sum_below_involution n σ f lt back =
    sum_below_by_values n n σ f lt
    ∙ sum_below_cong n _ f (λ k b. rw (count_below_image n σ lt back k b) (mul-one (f k)))

abbrev pub taken : ℕ → (ℕ → ℕ) → (ℕ → ℕ) → ℕ → ℕ
taken n d e k = count_below n (λ i. eqb (d i) k) + count_below n (λ i. eqb (e i) k)

module _ (n q : ℕ) (d e : ℕ → ℕ) (dlt : (i : ℕ) → i < n → d i < q) (elt : (i : ℕ) → i < n → e i < q) where
  sums_by_values : (f : ℕ → ℕ) →
      sum_below n (λ i. f (d i)) + sum_below n (λ i. f (e i)) ≡ sum_below q (λ k. f k * taken n d e k)
  sums_by_values f =
      rw (sum_below_by_values n q d f dlt, sum_below_by_values n q e f elt)
      (sum_below_sum q _ _ ∙ sum_below_cong q _ _ (λ k _. sym (mul-add (f k) _ _)))

  -- where each number is taken as often as its image
  pub sums_involution : (σ f : ℕ → ℕ) → ((k : ℕ) → k < q → σ k < q) → ((k : ℕ) → k < q → σ (σ k) ≡ k) →
      ((k : ℕ) → k < q → taken n d e k ≡ taken n d e (σ k)) →
      sum_below n (λ i. f (d i)) + sum_below n (λ i. f (e i))
      ≡ sum_below n (λ i. f (σ (d i))) + sum_below n (λ i. f (σ (e i)))
  sums_involution σ f lt back same =
      sums_by_values f
      ∙ sym (sum_below_involution q σ (λ k. f k * taken n d e k) lt back)
      ∙ sum_below_cong q (λ k. f (σ k) * taken n d e (σ k)) (λ k. f (σ k) * taken n d e k)
      (λ k b. ap (λ (t : ℕ). f (σ k) * t) (sym (same k b)))
      ∙ sym (sums_by_values (λ k. f (σ k)))
