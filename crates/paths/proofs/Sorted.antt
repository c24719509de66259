-- Lists in which each element stands in a relation to all later ones. In order: two elements by their places;
-- a weaker relation; what `keep` keeps; two lists joined; the values of an increasing function.
-- Not here: orders and paths (Increasing).  Assumes nothing.
use Prim.Native.Nat.{ℕ, zero, suc, ◌<◌, suc-le-suc, zero-le}
use native.Mathlib.Nat.{not-suc-le-zero, le_of_suc-le-suc}
use mathlib.Core.Path.{◌≡◌, refl}
use mathlib.Core.Logic.{◌⊎◌, inl, inr}
use mathlib.Core.Bool.{Bool, true, false}
use mathlib.Core.List.Memᴰ
use mathlib.Core.List.{List, [], ◌∷◌, ◌++◌, Memᴰ}
use lib.ListN.{length, get_or}
use Rattle.range.specs.Below.{list_below}
use Rattle.rules.specs.Path.{keep}
use Rattle.paths.proofs.Times.{get_or_mem}
use Rattle.paths.proofs.Listed.{keep_true, keep_false, keep_mem}

-- each element is related to all later ones
pub data Sorted {A : Type 0} (R : A → A → Type 0) : List A → Type 0 where
  none : Sorted R []
  first : {x : A} {xs : List A} → ((y : A) → Memᴰ y xs → R x y) → Sorted R xs → Sorted R (x ∷ xs)

module _ {A : Type 0} (R : A → A → Type 0) where
  pub sorted_at : (xs : List A) (d : A) (i j : ℕ) → Sorted R xs → i < j → j < length xs →
      R (get_or xs i d) (get_or xs j d)
  sorted_at [] d i j s l h = absurd (not-suc-le-zero h)
  sorted_at (x ∷ xs) d i zero s l h = absurd (not-suc-le-zero l)
  sorted_at (x ∷ xs) d zero (suc j) (first a s) l h = a (get_or xs j d) (get_or_mem xs j d (le_of_suc-le-suc h))
  sorted_at (x ∷ xs) d (suc i) (suc j) (first a s) l h = sorted_at xs d i j s (le_of_suc-le-suc l) (le_of_suc-le-suc h)

  pub sorted_imp : (S : A → A → Type 0) (xs : List A) → ((x y : A) → R x y → S x y) → Sorted R xs → Sorted S xs
  sorted_imp S [] c s = none
  sorted_imp S (x ∷ xs) c (first a s) = first (λ y i. c x y (a y i)) (sorted_imp S xs c s)

  pub sorted_keep : (f : A → Bool) (xs : List A) → Sorted R xs → Sorted R (keep f xs)
  unfolding keep
  sorted_keep f [] s = none
  sorted_keep f (x ∷ xs) (first a s) = at (f x) refl (sorted_keep f xs s)
    where
      at : (b : Bool) → f x ≡ b → Sorted R (keep f xs) → Sorted R (keep f (x ∷ xs))
      at true e t = rw (keep_true f x xs e) (first (λ y i. a y (keep_mem f y xs i).0) t)
      at false e t = rw (keep_false f x xs e) t

  pub sorted_append : (xs ys : List A) → Sorted R xs → Sorted R ys →
      ((x y : A) → Memᴰ x xs → Memᴰ y ys → R x y) → Sorted R (xs ++ ys)
  sorted_append [] ys s t c = t
  sorted_append (x ∷ xs) ys (first a s) t c =
      first (λ y i. at y (Memᴰ.append_cases xs i))
      (sorted_append xs ys s t (λ v w i j. c v w (Memᴰ.tail i) j))
    where
      at : (y : A) → Memᴰ y xs ⊎ Memᴰ y ys → R x y
      at y (inl i) = a y i
      at y (inr j) = c x y (Memᴰ.head refl) j

mem_list_below : (n : ℕ) (f : ℕ → ℕ) (y : ℕ) → Memᴰ y (list_below n f) → (i : ℕ) × (y ≡ f i)
unfolding list_below
mem_list_below zero f y i = absurd (Memᴰ.not-nil i)
mem_list_below (suc n) f y i = at (Memᴰ.cases_cons i) (λ j. mem_list_below n (λ k. f (suc k)) y j)
  where
    at : (y ≡ f zero) ⊎ Memᴰ y (list_below n (λ k. f (suc k))) →
        (Memᴰ y (list_below n (λ k. f (suc k))) → (i : ℕ) × (y ≡ f (suc i))) → (i : ℕ) × (y ≡ f i)
    at (inl e) g = (zero, e)
    at (inr j) g = (suc (g j).0, (g j).1)

pub sorted_list_below : (n : ℕ) (f : ℕ → ℕ) → ((i j : ℕ) → i < j → f i < f j) → Sorted (λ x y. x < y) (list_below n f)
unfolding list_below
sorted_list_below zero f c = none
sorted_list_below (suc n) f c =
    first (λ y i. at y (mem_list_below n (λ k. f (suc k)) y i))
    (sorted_list_below n (λ k. f (suc k)) (λ i j l. c (suc i) (suc j) (suc-le-suc l)))
  where
    at : (y : ℕ) → ((i : ℕ) × (y ≡ f (suc i))) → f zero < y
    at y r = rw r.1 (c zero (suc r.0) (suc-le-suc zero-le))
