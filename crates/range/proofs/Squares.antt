-- Sums over the pairs of numbers below n, told by how far the two numbers of a pair are apart.
-- Defines:  shifts n f    the sum of f over the pairs i, i + u below n: for each u, over i
-- In order: the first row; a square and its diagonal are its two halves; shift 0; two halves, and two squares, that
-- differ only by their diagonals.
-- Not here: sums of sums whose order is changed (Involutions).  Assumes nothing.
use Prim.Native.Nat.{ℕ, zero, suc, ◌+◌, ◌-◌, ◌≤◌, ◌<◌, suc-le-suc, zero-le}
use native.Mathlib.Nat.{zero-add, add-zero, suc-add, sub-zero, sub_self}
use native.Mathlib.Omega.{arith}
use mathlib.Core.Path.{◌≡◌, refl, sym, ◌∙◌, ap}
use Rattle.range.specs.Below.{sum_below}
use Rattle.range.proofs.Sums.{sum_below_suc, sum_below_cong, sum_below_sum}

abbrev shifts : ℕ → (ℕ → ℕ → ℕ) → ℕ
shifts n f = sum_below n (λ u. sum_below (n - u) (λ i. f i (i + u)))

-- the first place of a shift, and the others one on
shift_first : (n u : ℕ) (f : ℕ → ℕ → ℕ) → u ≤ n →
    sum_below (suc n - u) (λ i. f i (i + u)) ≡ f 0 u + sum_below (n - u) (λ i. f (suc i) (suc (i + u)))
unfolding sum_below
shift_first n u f l =
    let e : suc n - u ≡ suc (n - u) = omega arith in
    rw e (simp (zero-add, suc-add))

shifts_suc : (n : ℕ) (f : ℕ → ℕ → ℕ) →
    shifts (suc n) f ≡ sum_below (suc n) (λ u. f 0 u) + shifts n (λ i j. f (suc i) (suc j))
unfolding sum_below
shifts_suc n f =
    let rest : ℕ → ℕ = λ u. sum_below (n - u) (λ i. f (suc i) (suc (i + u))) in
    let none : rest n ≡ 0 = rw (sub_self n) in
    sum_below_cong (suc n) (λ u. sum_below (suc n - u) (λ i. f i (i + u))) (λ u. f 0 u + rest u)
    (λ u b. shift_first n u f (omega arith))
    ∙ sym (sum_below_sum (suc n) (λ u. f 0 u) rest)
    ∙ ap (λ (x : ℕ). sum_below (suc n) (λ u. f 0 u) + x) (sum_below_suc n rest ∙ rw none (add-zero _))

-- the diagonal belongs to both halves
sum_below_square : (n : ℕ) (f : ℕ → ℕ → ℕ) →
    sum_below n (λ i. sum_below n (λ j. f i j)) + sum_below n (λ i. f i i) ≡ shifts n f + shifts n (λ i j. f j i)
unfolding sum_below
sum_below_square zero f = refl
sum_below_square (suc n) f =
    let column = sum_below_sum n (λ i. f (suc i) 0) (λ i. sum_below n (λ j. f (suc i) (suc j))) in
    let rest = sum_below_square n (λ i j. f (suc i) (suc j)) in
    omega (arith, column, rest, shifts_suc n f, shifts_suc n (λ i j. f j i))

-- shift 0 is the diagonal
shift_zero : (n : ℕ) (f : ℕ → ℕ → ℕ) → sum_below (n - 0) (λ i. f i (i + 0)) ≡ sum_below n (λ i. f i i)
shift_zero n f = simp (sub-zero, add-zero)

-- two halves whose sums agree at each shift from 1 on
shifts_differ : (n : ℕ) (f g : ℕ → ℕ → ℕ) →
    ((u : ℕ) → 1 ≤ u → u < n → sum_below (n - u) (λ i. f i (i + u)) ≡ sum_below (n - u) (λ i. g i (i + u))) →
    shifts n f + sum_below n (λ i. g i i) ≡ shifts n g + sum_below n (λ i. f i i)
unfolding sum_below
shifts_differ zero f g e = refl
shifts_differ (suc n) f g e =
    let rest = sum_below_cong n _ _ (λ u b. e (suc u) (suc-le-suc zero-le) (suc-le-suc b)) in
    omega (arith, rest, shift_zero (suc n) f, shift_zero (suc n) g)

-- two squares whose halves do
pub squares_differ : (n : ℕ) (f g : ℕ → ℕ → ℕ) →
    ((u : ℕ) → 1 ≤ u → u < n → sum_below (n - u) (λ i. f i (i + u)) ≡ sum_below (n - u) (λ i. g i (i + u))) →
    ((u : ℕ) → 1 ≤ u → u < n → sum_below (n - u) (λ i. f (i + u) i) ≡ sum_below (n - u) (λ i. g (i + u) i)) →
    sum_below n (λ i. sum_below n (λ j. f i j)) + sum_below n (λ i. g i i)
    ≡ sum_below n (λ i. sum_below n (λ j. g i j)) + sum_below n (λ i. f i i)
squares_differ n f g to from =
    let above = shifts_differ n f g to in
    let below = shifts_differ n (λ i j. f j i) (λ i j. g j i) from in
    omega (arith, above, below, sum_below_square n f, sum_below_square n g)
