-- How long lists are. In order: a flat_map; two tests of which each element passes exactly one; a list whose members
-- all stand in another; a test carried over to another test.
-- Not here: how often a number stands in a list (Times).  Assumes nothing.
use Prim.Native.Nat.{ℕ, suc, ◌+◌, ◌*◌, ◌≤◌, zero-le}
use native.Mathlib.Nat.{suc-mul, zero-mul}
use native.Mathlib.Omega.{arith}
use mathlib.Core.Path.{◌≡◌, refl, sym, ◌∙◌, ap}
use mathlib.Core.Logic.{◌≢◌, ◌⊎◌, inl, inr}
use mathlib.Core.Bool.{Bool, true, false, not}
use mathlib.Core.List.{List, [], ◌∷◌, map, flat_map}
use mathlib.Core.List.Memᴰ
use mathlib.Core.List.{Memᴰ}
use lib.ListN.{length, length-append, length-map}
use Rattle.rules.specs.Path.{keep}
use Rattle.paths.proofs.Listed.{keep_true, keep_false, keep_mem, mem_keep}
use Rattle.paths.proofs.Sorted.{Sorted, none, first, sorted_keep}

pub length_flat_map : {A B : Type 0} (f : A → List B) (xs : List A) (c : ℕ) →
    ((x : A) → Memᴰ x xs → length (f x) ≡ c) → length (flat_map f xs) ≡ length xs * c
unfolding flat_map
length_flat_map f [] c e = sym (zero-mul c)
length_flat_map f (x ∷ xs) c e =
    omega (
      arith,
      length-append (f x) (flat_map f xs),
      e x (Memᴰ.head refl),
      suc-mul (length xs) c,
      length_flat_map f xs c (λ y i. e y (Memᴰ.tail i)),
    )

module _ {A : Type 0} where
  pub length_keep_not : (f g : A → Bool) (xs : List A) → ((x : A) → Memᴰ x xs → g x ≡ not (f x)) →
      length (keep f xs) + length (keep g xs) ≡ length xs
  unfolding keep
  length_keep_not f g [] e = refl
  length_keep_not f g (x ∷ xs) e =
      at (f x) refl (e x (Memᴰ.head refl)) (length_keep_not f g xs (λ y i. e y (Memᴰ.tail i)))
    where
      at : (b : Bool) → f x ≡ b → g x ≡ not (f x) → length (keep f xs) + length (keep g xs) ≡ length xs →
          length (keep f (x ∷ xs)) + length (keep g (x ∷ xs)) ≡ suc (length xs)
      at true t s h = rw (keep_true f x xs t, keep_false g x xs (s ∙ ap not t)) (omega arith)
      at false t s h = rw (keep_false f x xs t, keep_true g x xs (s ∙ ap not t)) (omega arith)

  -- a list without one of its members: one shorter, and with all other members
  pub Rest : A → List A → Type 0
  Rest a ys = (zs : List A) × (length ys ≡ suc (length zs)) × ((b : A) → b ≢ a → Memᴰ b ys → Memᴰ b zs)

  rest_of_mem : (a : A) (ys : List A) → Memᴰ a ys → Rest a ys
  unfolding Rest
  rest_of_mem a [] i = absurd (Memᴰ.not-nil i)
  rest_of_mem a (y ∷ ys) i = at (Memᴰ.cases_cons i) (λ j. rest_of_mem a ys j)
    where
      skip : a ≡ y → (b : A) → b ≢ a → (b ≡ y) ⊎ Memᴰ b ys → Memᴰ b ys
      skip e b n (inl s) = absurd (n (s ∙ sym e))
      skip e b n (inr j) = j

      move : (r : Rest a ys) (b : A) → b ≢ a → (b ≡ y) ⊎ Memᴰ b ys → Memᴰ b (y ∷ r.0)
      move r b n (inl s) = Memᴰ.head s
      move r b n (inr j) = Memᴰ.tail (r.2 b n j)

      at : (a ≡ y) ⊎ Memᴰ a ys → (Memᴰ a ys → Rest a ys) → Rest a (y ∷ ys)
      at (inl e) f = (ys, refl, λ b n j. skip e b n (Memᴰ.cases_cons j))
      at (inr j) f = (y ∷ (f j).0, ap suc (f j).1, λ b n k. move (f j) b n (Memᴰ.cases_cons k))

  -- no element twice
  abbrev pub Single : List A → Type 0
  Single xs = Sorted (λ x y. x ≢ y) xs

  -- no element twice, and each a member of ys: no longer than ys
  pub length_le_of_mem : (xs ys : List A) → Single xs → ((a : A) → Memᴰ a xs → Memᴰ a ys) →
      length xs ≤ length ys
  unfolding Rest
  length_le_of_mem [] ys s c = zero-le
  length_le_of_mem (x ∷ xs) ys (first n s) c =
      let r : Rest x ys = rest_of_mem x ys (c x (Memᴰ.head refl)) in
      omega (arith, r.1, length_le_of_mem xs r.0 s (λ a i. r.2 a (λ e. n a i (sym e)) (c a (Memᴰ.tail i))))

  pub single_map : (r : A → A) (xs : List A) → ((a b : A) → r a ≡ r b → a ≡ b) → Single xs → Single (map r xs)
  single_map r [] j s = none
  single_map r (x ∷ xs) j (first n s) = first (λ y i. at y (Memᴰ.of_map r xs i)) (single_map r xs j s)
    where
      at : (y : A) → ((a : A) × Memᴰ a xs × (r a ≡ y)) → r x ≢ y
      at y t e = n t.0 t.1 (j x t.0 (e ∙ sym t.2))

  -- r takes the members that pass f to members that pass g
  pub length_keep_le : (f g : A → Bool) (r : A → A) (xs : List A) → ((a b : A) → r a ≡ r b → a ≡ b) → Single xs →
      ((a : A) → Memᴰ a xs → f a ≡ true → Memᴰ (r a) xs × (g (r a) ≡ true)) →
      length (keep f xs) ≤ length (keep g xs)
  length_keep_le f g r xs j s c =
      let t : Single (map r (keep f xs)) = single_map r (keep f xs) j (sorted_keep (λ x y. x ≢ y) f xs s) in
      let l = length_le_of_mem (map r (keep f xs)) (keep g xs) t (λ y i. at y (Memᴰ.of_map r (keep f xs) i)) in
      omega (arith, length-map (keep f xs) r, l)
    where
      at : (y : A) → ((a : A) × Memᴰ a (keep f xs) × (r a ≡ y)) → Memᴰ y (keep g xs)
      at y t =
          let k = keep_mem f t.0 xs t.1 in
          let h = c t.0 k.0 k.1 in
          rw t.2 at (mem_keep g (r t.0) xs h.0 h.1)
