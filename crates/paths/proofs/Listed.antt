-- The members of `keep` and of a flat_map. In order: an element kept, an element dropped; members of `keep`;
-- members of a flat_map.
-- Not here: counts (Times), orders (Orders).  Assumes nothing.
use mathlib.Core.Path.{◌≡◌, refl, sym, ◌∙◌, ap}
use mathlib.Core.Logic.{◌⊎◌, inl, inr}
use mathlib.Core.Bool.{Bool, true, false, false≢true}
use mathlib.Core.List.Memᴰ
use mathlib.Core.List.{List, [], ◌∷◌, ◌++◌, flat_map, Memᴰ}
use Rattle.rules.specs.Path.{keep}

module _ {A : Type 0} where
  pub keep_true : (f : A → Bool) (x : A) (xs : List A) → f x ≡ true → keep f (x ∷ xs) ≡ x ∷ keep f xs
  unfolding keep
  keep_true f x xs e = rw (e, keep)

  pub keep_false : (f : A → Bool) (x : A) (xs : List A) → f x ≡ false → keep f (x ∷ xs) ≡ keep f xs
  unfolding keep
  keep_false f x xs e = rw (e, keep)

  pub keep_mem : (f : A → Bool) (a : A) (xs : List A) → Memᴰ a (keep f xs) → Memᴰ a xs × (f a ≡ true)
  unfolding keep
  keep_mem f a [] i = absurd (Memᴰ.not-nil i)
  keep_mem f a (x ∷ xs) i = at (f x) refl (λ j. keep_mem f a xs j)
    where
      past : Memᴰ a xs × (f a ≡ true) → Memᴰ a (x ∷ xs) × (f a ≡ true)
      past r = (Memᴰ.tail r.0, r.1)

      pick : f x ≡ true → (Memᴰ a (keep f xs) → Memᴰ a xs × (f a ≡ true)) →
          (a ≡ x) ⊎ Memᴰ a (keep f xs) → Memᴰ a (x ∷ xs) × (f a ≡ true)
      pick e g (inl s) = (Memᴰ.head s, ap f s ∙ e)
      pick e g (inr j) = past (g j)

      at : (b : Bool) → f x ≡ b → (Memᴰ a (keep f xs) → Memᴰ a xs × (f a ≡ true)) →
          Memᴰ a (x ∷ xs) × (f a ≡ true)
      at true e g = pick e g (Memᴰ.cases_cons (rw (keep_true f x xs e) at i))
      at false e g = past (g (rw (keep_false f x xs e) at i))

  pub mem_keep : (f : A → Bool) (a : A) (xs : List A) → Memᴰ a xs → f a ≡ true → Memᴰ a (keep f xs)
  mem_keep f a [] i p = absurd (Memᴰ.not-nil i)
  mem_keep f a (x ∷ xs) i p = at (f x) refl (Memᴰ.cases_cons i) (λ j. mem_keep f a xs j p)
    where
      at : (b : Bool) → f x ≡ b → (a ≡ x) ⊎ Memᴰ a xs → (Memᴰ a xs → Memᴰ a (keep f xs)) →
          Memᴰ a (keep f (x ∷ xs))
      at true e (inl s) g = rw (keep_true f x xs e) (Memᴰ.head s)
      at true e (inr j) g = rw (keep_true f x xs e) (Memᴰ.tail (g j))
      at false e (inl s) g = absurd (false≢true (sym e ∙ ap f (sym s) ∙ p))
      at false e (inr j) g = rw (keep_false f x xs e) (g j)

module _ {A B : Type 0} where
  pub mem_flat_map : (f : A → List B) (a : A) (b : B) (xs : List A) → Memᴰ a xs → Memᴰ b (f a) →
      Memᴰ b (flat_map f xs)
  unfolding flat_map
  mem_flat_map f a b [] i j = absurd (Memᴰ.not-nil i)
  mem_flat_map f a b (x ∷ xs) i j = at (Memᴰ.cases_cons i) (λ k. mem_flat_map f a b xs k j)
    where
      at : (a ≡ x) ⊎ Memᴰ a xs → (Memᴰ a xs → Memᴰ b (flat_map f xs)) →
          Memᴰ b (f x ++ flat_map f xs)
      at (inl e) g = Memᴰ.append_left (flat_map f xs) (rw e at j)
      at (inr k) g = Memᴰ.append_right (f x) (g k)

  pub flat_map_mem : (f : A → List B) (b : B) (xs : List A) → Memᴰ b (flat_map f xs) →
      (a : A) × Memᴰ a xs × Memᴰ b (f a)
  unfolding flat_map
  flat_map_mem f b [] i = absurd (Memᴰ.not-nil i)
  flat_map_mem f b (x ∷ xs) i = at (Memᴰ.append_cases (f x) i) (λ k. flat_map_mem f b xs k)
    where
      past : ((a : A) × Memᴰ a xs × Memᴰ b (f a)) → (a : A) × Memᴰ a (x ∷ xs) × Memᴰ b (f a)
      past r = (r.0, Memᴰ.tail r.1, r.2)

      at : Memᴰ b (f x) ⊎ Memᴰ b (flat_map f xs) →
          (Memᴰ b (flat_map f xs) → (a : A) × Memᴰ a xs × Memᴰ b (f a)) →
          (a : A) × Memᴰ a (x ∷ xs) × Memᴰ b (f a)
      at (inl j) g = (x, Memᴰ.head refl, j)
      at (inr k) g = past (g k)
