-- What is said of all numbers below n, each by counting up from 0.
-- Defines:  sum_below n f     f 0 + .. + f (n - 1)
--           one_if b          1 for a test that is passed, else 0
--           count_below n f   how many i below n pass the test f
--           all_below n f     whether every i below n passes f
--           first_below n f   the first i below n that passes f, if there is one (zero_or is its step)
--           list_below n f    f 0, .., f (n - 1)
--           filled n f d      d filled from the front: f 0, .., f (n - 1), and from n on what d holds there
--           Fills f d i d' j  a list that, as d, is filled with f up to i is, as d', filled up to j
--           rows_below n f    the lists f 0, .., f (n - 1), end to end
--           n !               1 * 2 * .. * n
-- Laws: proofs/Sums.antt, Involutions.antt, Squares.antt, Tests.antt, FromOne.antt, Lists.antt, Filled.antt,
-- Fills.antt.
-- Assumes nothing: these are definitions.
use Rattle.std.specs.Prelude.{ℕ, zero, suc, ◌+◌, ◌*◌, ◌≡◌, Bool, true, false, ◌&&◌, List, [], ◌∷◌, ◌++◌, length, drop}
use Rattle.std.proofs.Math.Option.{Option, none, some}

unfoldable pub sum_below : ℕ → (ℕ → ℕ) → ℕ
sum_below zero f = zero
sum_below (suc n) f = f zero + sum_below n (λ i. f (suc i))

abbrev pub one_if : Bool → ℕ
one_if true = 1
one_if false = 0

unfoldable pub count_below : ℕ → (ℕ → Bool) → ℕ
count_below n f = sum_below n (λ i. one_if (f i))

unfoldable pub all_below : ℕ → (ℕ → Bool) → Bool
all_below zero f = true
all_below (suc n) f = f zero && all_below n (λ i. f (suc i))

-- 0 where it passes, else the next after what was found further on
abbrev pub zero_or : Bool → Option ℕ → Option ℕ
zero_or true o = some zero
zero_or false none = none
zero_or false (some i) = some (suc i)

unfoldable pub first_below : ℕ → (ℕ → Bool) → Option ℕ
first_below zero f = none
first_below (suc n) f = zero_or (f zero) (first_below n (λ i. f (suc i)))

unfoldable pub list_below : {A : Type 0} → ℕ → (ℕ → A) → List A
list_below zero f = []
list_below (suc n) f = f zero ∷ list_below n (λ i. f (suc i))

abbrev pub filled : {A : Type 0} → ℕ → (ℕ → A) → List A → List A
filled n f d = list_below n f ++ drop n d

-- said of whatever list l it was filled from, so that it holds of a loop seen from its own start
pub record Fills {A : Type 0} (f : ℕ → A) (d : List A) (i : ℕ) (d' : List A) (j : ℕ) : Type 0 where
  pub sized : length d' ≡ length d
  pub on : (l : List A) → length d ≡ length l → d ≡ filled i f l → d' ≡ filled j f l

unfoldable pub rows_below : {A : Type 0} → ℕ → (ℕ → List A) → List A
rows_below zero f = []
rows_below (suc n) f = f zero ++ rows_below n (λ i. f (suc i))

infixl 90 ◌!
unfoldable pub ◌! : ℕ → ℕ
zero ! = 1
(suc n) ! = suc n * n !
