-- Paths: 01 "What a logger may send".
-- Defines:  head_of, last_of  the first and the last of a list
--           times k xs        how often k stands in a list
--           IsPath m p        p is an order of the numbers 1..m whose first is less than its last
--           Before xs ys      xs comes before ys in dictionary order, of lists of one length (also the order of labels)
--           keep f xs         those of a list that pass a test
--           without x xs      a list without x
--           orders n xs       the orders of n numbers
--           up_to m           1, .., m
--           paths m           every path of m, in dictionary order
--           path_at m n       the path with number n, counted from 0
-- That `paths` lists exactly the lists of `IsPath`, in that order: crate paths. That the order has a direction:
-- proofs/OrderLaws.antt.
-- Assumes nothing: these are definitions.
use Rattle.std.specs.Prelude.{ℕ, zero, suc, ◌+◌, ◌<◌, ◌≤◌, ◌≡◌, Bool, true, false, not, eqb, ltb, length, get_or}
use mathlib.Core.List.{List, [], ◌∷◌, map, flat_map}
use Rattle.range.specs.Below.{one_if, list_below}

abbrev pub head_of : List ℕ → ℕ
head_of [] = 0
head_of (x ∷ xs) = x

abbrev pub last_of : List ℕ → ℕ
last_of [] = 0
last_of (x ∷ []) = x
last_of (x ∷ (y ∷ ys)) = last_of (y ∷ ys)

unfoldable pub times : ℕ → List ℕ → ℕ
times k [] = 0
times k (x ∷ xs) = one_if (eqb x k) + times k xs

pub record IsPath (m : ℕ) (p : List ℕ) : Type 0 where
  pub long : length p ≡ m
  pub each : (k : ℕ) → 1 ≤ k → k ≤ m → times k p ≡ 1
  pub ends : head_of p < last_of p

-- the first difference decides
pub data Before : List ℕ → List ℕ → Type 0 where
  here : {x y : ℕ} {xs ys : List ℕ} → x < y → Before (x ∷ xs) (y ∷ ys)
  later : {x : ℕ} {xs ys : List ℕ} → Before xs ys → Before (x ∷ xs) (x ∷ ys)

unfoldable pub keep : {A : Type 0} → (A → Bool) → List A → List A
keep f [] = []
keep f (x ∷ xs) = elim (f x) [ true ↦ x ∷ keep f xs | false ↦ keep f xs ]

unfoldable pub without : ℕ → List ℕ → List ℕ
without x xs = keep (λ y. not (eqb y x)) xs

-- each of them first, and then the orders of the others
unfoldable pub orders : ℕ → List ℕ → List (List ℕ)
orders zero xs = [] ∷ []
orders (suc n) xs = flat_map (λ x. map (λ p. x ∷ p) (orders n (without x xs))) xs

unfoldable pub up_to : ℕ → List ℕ
up_to m = list_below m suc

unfoldable pub paths : ℕ → List (List ℕ)
paths m = keep (λ p. ltb (head_of p) (last_of p)) (orders m (up_to m))

unfoldable pub path_at : ℕ → ℕ → List ℕ
path_at m n = get_or (paths m) n []
