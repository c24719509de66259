-- Laws of list_below. In order: its length, its elements, one more at the end, equal elements, rows end to end.
-- Not here: sums and counts (Sums), tests and searches (Tests), lists filled from the front (Filled).  Assumes nothing.
use Prim.Native.Nat.{ℕ, zero, suc, ◌+◌, ◌<◌, zero-le, suc-le-suc}
use native.Mathlib.Nat.{zero-add, not-suc-le-zero, le_of_suc-le-suc}
use native.Mathlib.Omega.{arith}
use mathlib.Core.Path.{◌≡◌, refl, ◌∙◌, ap}
use mathlib.Core.List.{List, [], ◌∷◌, ◌++◌}
use lib.ListN.{length, get_or, get_or-append}
use lib.Seq.{get_or-append-add}
use Rattle.range.specs.Below.{sum_below, list_below, rows_below}

module _ {A : Type 0} where
  pub length_list_below : (n : ℕ) (f : ℕ → A) → length (list_below n f) ≡ n
  unfolding list_below
  length_list_below zero f = refl
  length_list_below (suc n) f = ap suc (length_list_below n (λ i. f (suc i)))

  pub list_below_at : (n : ℕ) (f : ℕ → A) (i : ℕ) (d : A) → i < n → get_or (list_below n f) i d ≡ f i
  unfolding list_below
  list_below_at zero f i d h = absurd (not-suc-le-zero h)
  list_below_at (suc n) f zero d h = refl
  list_below_at (suc n) f (suc i) d h = list_below_at n (λ k. f (suc k)) i d (le_of_suc-le-suc h)

  pub list_below_suc : (n : ℕ) (f : ℕ → A) → list_below (suc n) f ≡ list_below n f ++ (f n ∷ [])
  unfolding list_below
  list_below_suc zero f = refl
  list_below_suc (suc n) f = ap (λ (t : List A). f zero ∷ t) (list_below_suc n (λ i. f (suc i)))

  pub list_below_cong : (n : ℕ) (f g : ℕ → A) → ((i : ℕ) → i < n → f i ≡ g i) → list_below n f ≡ list_below n g
  unfolding list_below
  list_below_cong zero f g e = refl
  list_below_cong (suc n) f g e =
      let rest = list_below_cong n (λ i. f (suc i)) (λ i. g (suc i)) (λ i h. e (suc i) (suc-le-suc h)) in
      rw (e zero (suc-le-suc zero-le), rest)

  -- rows end to end: element i of row j stands behind the rows before it
  pub rows_below_at : (n : ℕ) (f : ℕ → List A) (len : ℕ → ℕ) → ((j : ℕ) → length (f j) ≡ len j) → (j i : ℕ) (d : A) →
      j < n → i < len j → get_or (rows_below n f) (sum_below j len + i) d ≡ get_or (f j) i d
  unfolding rows_below sum_below
  rows_below_at zero f len e j i d h l = absurd (not-suc-le-zero h)
  rows_below_at (suc n) f len e zero i d h l =
      rw zero-add (get_or-append (f zero) (rows_below n (λ k. f (suc k))) d i (rw e l))
  rows_below_at (suc n) f len e (suc j) i d h l =
      let r : ℕ = sum_below j (λ k. len (suc k)) + i in
      let q : len zero + sum_below j (λ k. len (suc k)) + i ≡ length (f zero) + r = omega (arith, e zero) in
      ap (λ (k : ℕ). get_or (f zero ++ rows_below n (λ k. f (suc k))) k d) q
      ∙ get_or-append-add (f zero) (rows_below n (λ k. f (suc k))) r d
      ∙ rows_below_at n (λ k. f (suc k)) (λ k. len (suc k)) (λ k. e (suc k)) j i d (le_of_suc-le-suc h) l
