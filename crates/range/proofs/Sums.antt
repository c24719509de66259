-- Laws of sum_below and count_below. In order: one more summand at the end; two parts; equal summands; a constant;
-- zeros; equal summands but one, and zeros but one; two sums as one, and summands that add up to a constant; a constant
-- factor; greater summands; a bound from above, and from below; counts: one more place, and a bound; one turn of a loop
-- that adds up; what lies below the whole sum.
-- Not here: sums of sums, and over an involution (Involutions), tests and searches (Tests), lists (Lists).
-- Assumes nothing.
use Prim.Native.Nat.{ℕ, zero, suc, ◌+◌, ◌*◌, ◌≤◌, ◌<◌, zero-le, suc-le-suc}
use native.Mathlib.Nat.{zero-add, zero-mul, mul-zero, mul-add, suc-add, suc-mul, le_refl, not-suc-le-zero}
use native.Mathlib.Nat.{le_of_suc-le-suc}
use native.Mathlib.Numerals.{add-one}
use native.Mathlib.Omega.{arith}
use mathlib.Core.Path.{◌≡◌, refl, sym, ◌∙◌}
use mathlib.Core.Logic.{◌≢◌}
use mathlib.Core.Bool.{Bool, true, false}
use Rattle.range.specs.Below.{sum_below, count_below, one_if}

pub sum_below_suc : (n : ℕ) (f : ℕ → ℕ) → sum_below (suc n) f ≡ sum_below n f + f n
unfolding sum_below
sum_below_suc zero f = omega arith
sum_below_suc (suc n) f = omega (arith, sum_below_suc n (λ i. f (suc i)))

-- a sum in two parts
pub sum_below_add : (a b : ℕ) (f : ℕ → ℕ) → sum_below (a + b) f ≡ sum_below a f + sum_below b (λ i. f (a + i))
unfolding sum_below
sum_below_add zero b f = simp zero-add
sum_below_add (suc a) b f = rw (suc-add, sum_below_add a b (λ i. f (suc i))) (simp suc-add (omega arith))

pub sum_below_cong : (n : ℕ) (f g : ℕ → ℕ) → ((i : ℕ) → i < n → f i ≡ g i) → sum_below n f ≡ sum_below n g
unfolding sum_below
sum_below_cong zero f g e = refl
sum_below_cong (suc n) f g e =
    let rest = sum_below_cong n (λ i. f (suc i)) (λ i. g (suc i)) (λ i h. e (suc i) (suc-le-suc h)) in
    omega (arith, e zero (suc-le-suc zero-le), rest)

pub sum_below_const : (n c : ℕ) → sum_below n (λ _. c) ≡ n * c
unfolding sum_below
sum_below_const zero c = sym (zero-mul c)
sum_below_const (suc n) c = omega (arith, sum_below_const n c, suc-mul n c)

pub sum_below_zero : (n : ℕ) (f : ℕ → ℕ) → ((i : ℕ) → i < n → f i ≡ 0) → sum_below n f ≡ 0
sum_below_zero n f e = sum_below_cong n f (λ _. 0) e ∙ sum_below_const n 0 ∙ mul-zero n

-- two sums that differ at k alone
pub sum_below_but_one : (n k : ℕ) (f g : ℕ → ℕ) → k < n → ((i : ℕ) → i < n → i ≢ k → f i ≡ g i) →
    sum_below n f + g k ≡ sum_below n g + f k
unfolding sum_below
sum_below_but_one zero k f g l e = absurd (not-suc-le-zero l)
sum_below_but_one (suc n) zero f g l e =
    let rest = sum_below_cong n (λ i. f (suc i)) (λ i. g (suc i)) (λ i b. e (suc i) (suc-le-suc b) (omega arith)) in
    omega arith
sum_below_but_one (suc n) (suc k) f g l e =
    let rest = sum_below_but_one n k (λ i. f (suc i)) (λ i. g (suc i)) (le_of_suc-le-suc l)
    (λ i b d. e (suc i) (suc-le-suc b) (omega arith)) in
    omega (arith, e 0 (omega arith) (omega arith))

-- all summands but one are zero
pub sum_below_only : (n k : ℕ) (f : ℕ → ℕ) → k < n → ((i : ℕ) → i < n → i ≢ k → f i ≡ 0) → sum_below n f ≡ f k
sum_below_only n k f l e =
    omega (arith, sum_below_but_one n k f (λ _. 0) l e, sum_below_zero n (λ _. 0) (λ _ _. refl))

pub sum_below_sum : (n : ℕ) (f g : ℕ → ℕ) → sum_below n f + sum_below n g ≡ sum_below n (λ i. f i + g i)
unfolding sum_below
sum_below_sum zero f g = refl
sum_below_sum (suc n) f g = omega (arith, sum_below_sum n (λ i. f (suc i)) (λ i. g (suc i)))

pub sum_below_pairs : (n c : ℕ) (f g : ℕ → ℕ) → ((i : ℕ) → i < n → f i + g i ≡ c) →
    sum_below n f + sum_below n g ≡ n * c
sum_below_pairs n c f g e = sum_below_sum n f g ∙ sum_below_cong n (λ i. f i + g i) (λ _. c) e ∙ sum_below_const n c

pub sum_below_mul : (n c : ℕ) (f : ℕ → ℕ) → sum_below n (λ i. c * f i) ≡ c * sum_below n f
unfolding sum_below
sum_below_mul zero c f = omega arith
sum_below_mul (suc n) c f =
    rw (sum_below_mul n c (λ i. f (suc i))) (sym (mul-add c (f zero) (sum_below n (λ i. f (suc i)))))

pub sum_below_mono : (n : ℕ) (f g : ℕ → ℕ) → ((i : ℕ) → i < n → f i ≤ g i) → sum_below n f ≤ sum_below n g
unfolding sum_below
sum_below_mono zero f g h = zero-le
sum_below_mono (suc n) f g h =
    let rest = sum_below_mono n (λ i. f (suc i)) (λ i. g (suc i)) (λ i l. h (suc i) (suc-le-suc l)) in
    omega (arith, h zero (suc-le-suc zero-le), rest)

-- a bound on each summand bounds the sum
pub sum_below_le : (n b : ℕ) (f : ℕ → ℕ) → ((i : ℕ) → i < n → f i ≤ b) → sum_below n f ≤ n * b
sum_below_le n b f h = rw (← (sum_below_const n b)) (sum_below_mono n f (λ _. b) h)

pub sum_below_ge : (n b : ℕ) (f : ℕ → ℕ) → ((i : ℕ) → i < n → b ≤ f i) → n * b ≤ sum_below n f
sum_below_ge n b f h = rw (← (sum_below_const n b)) (sum_below_mono n (λ _. b) f h)

pub count_below_suc : (n : ℕ) (f : ℕ → Bool) → count_below (suc n) f ≡ count_below n f + one_if (f n)
unfolding count_below
count_below_suc n f = sum_below_suc n (λ i. one_if (f i))

pub one_if_le : (b : Bool) → one_if b ≤ 1
one_if_le true = le_refl 1
one_if_le false = zero-le

pub count_below_le : (n : ℕ) (f : ℕ → Bool) → count_below n f ≤ n
unfolding count_below
count_below_le n f = omega (arith, sum_below_le n 1 (λ i. one_if (f i)) (λ i _. one_if_le (f i)))

-- one turn of a loop that adds up
pub sum_below_turn : (i s v : ℕ) (f : ℕ → ℕ) → s ≡ sum_below i f → v ≡ f i → s + v ≡ sum_below (i + 1) f
sum_below_turn i s v f p q = rw (add-one, sum_below_suc i f, p, q)

-- x of the summand at j lies below the whole sum
pub sum_below_lt : (n : ℕ) (f : ℕ → ℕ) (j x : ℕ) → j < n → x < f j → sum_below j f + x < sum_below n f
unfolding sum_below
sum_below_lt zero f j x h l = absurd (not-suc-le-zero h)
sum_below_lt (suc n) f zero x h l = omega arith
sum_below_lt (suc n) f (suc j) x h l = omega (arith, sum_below_lt n (λ i. f (suc i)) j x (le_of_suc-le-suc h) l)
