-- The mate of a place i, for a shift u and a path. The digits of the places i and i + u are compared along the path.
-- Where they agree at its first step, the mate is i with one digit turned over: that of the step before the first at
-- which they differ. Else i is its own mate.
-- Defines:  pivot m f p u i      the step that is turned over, for the path f ∷ p
--           OddAround m a i j p  the digits of i and j around step a of a path have an odd sum
--           mate m p u i         the mate of place i
-- In order: two places that agree in a digit, with it turned over in both; the steps of a path lie in 1..m; the mate by
-- the digits at the first step; the pivot and what stands around it; the mate has a place u on too, and its mate is i.
-- Not here: what words have at mates (Balance).  Assumes nothing.
use Prim.Native.Nat.{ℕ, ◌+◌, ◌-◌, ◌%◌, ◌≤◌, ◌<◌}
use native.Mathlib.Decide.{ℕ_discrete}
use native.Mathlib.Omega.{arith}
use mathlib.Core.Path.{◌≡◌, refl, ◌∙◌, ap}
use mathlib.Core.Logic.{◌≢◌}
use mathlib.Core.Bool.{cond}
use mathlib.Core.List.{List, [], ◌∷◌, Memᴰ}
use lib.Dec.{eqb}
use borrow.Author.Tests.{eq-eqb, ne_eqb, eqb-true}
use Rattle.range.proofs.Tests.{eqb_of_iff}
use Rattle.rules.specs.Shape.{carriers}
use Rattle.rules.specs.Place.{digit}
use Rattle.rules.specs.Path.{IsPath}
use Rattle.places.proofs.Digits.{digit_lt, place_by_digits}
use Rattle.places.proofs.Flips.{flip, flip_lt, flip_flip, flip_shift, digit_flip_balance}
use Rattle.paths.proofs.Times.{mem_of_times}
use Rattle.paths.proofs.Members.{is_path_within, is_path_unique}
use Rattle.words.proofs.Around.{around}
use Rattle.words.proofs.StepBefore.{step_before, step_before_same, step_before_in, step_before_cong, agree_cons}
use Rattle.words.proofs.StepBefore.{around_before}

abbrev pub pivot : ℕ → ℕ → List ℕ → ℕ → ℕ → ℕ
pivot m f p u i = step_before (digit m i) (digit m (i + u)) f p

abbrev pub OddAround : ℕ → ℕ → ℕ → ℕ → List ℕ → Type 0
OddAround m a i j p = (around a (digit m i) p + around a (digit m j) p) % 2 ≡ 1

unfoldable pub mate : ℕ → List ℕ → ℕ → ℕ → ℕ
mate m [] u i = i
mate m (f ∷ p) u i = cond (eqb (digit m i f) (digit m (i + u) f)) (flip m (pivot m f p u i) i) i

-- places that agree in digit a differ, with it turned over in both, where they did
eqb_flip : (m a i j k : ℕ) → a ≤ m → k ≤ m → digit m i a ≡ digit m j a →
    eqb (digit m (flip m a i) k) (digit m (flip m a j) k) ≡ eqb (digit m i k) (digit m j k)
eqb_flip m a i j k la lk s =
    let balance = digit_flip_balance m a i j k la lk s in
    eqb_of_iff (digit m (flip m a i) k) (digit m (flip m a j) k) (digit m i k) (digit m j k) (λ e. omega arith)
    (λ e. omega arith)

module _ (m f : ℕ) (p : List ℕ) (path : IsPath m (f ∷ p)) where
  pub first_le : f ≤ m
  first_le = (is_path_within m (f ∷ p) path f (Memᴰ.head refl)).1

  pub pivot_in : (u i : ℕ) → (1 ≤ pivot m f p u i) × (pivot m f p u i ≤ m)
  pivot_in u i = is_path_within m (f ∷ p) path (pivot m f p u i) (step_before_in (digit m i) (digit m (i + u)) f p)

module _ (m f : ℕ) (p : List ℕ) (u i : ℕ) where
  pub mate_self : digit m i f ≢ digit m (i + u) f → mate m (f ∷ p) u i ≡ i
  unfolding mate
  mate_self n = rw (ne_eqb _ _ n)

  pub mate_flip : digit m i f ≡ digit m (i + u) f → mate m (f ∷ p) u i ≡ flip m (pivot m f p u i) i
  unfolding mate
  mate_flip s = rw (eq-eqb _ _ s)

  pub pivot_same : digit m i f ≡ digit m (i + u) f → digit m i (pivot m f p u i) ≡ digit m (i + u) (pivot m f p u i)
  pivot_same s = step_before_same (digit m i) (digit m (i + u)) f p s

  -- the place u on from the mate
  pub flip_on : digit m i f ≡ digit m (i + u) f → flip m (pivot m f p u i) (i + u) ≡ flip m (pivot m f p u i) i + u
  flip_on s = flip_shift m (pivot m f p u i) i (i + u) u (pivot_same s) refl

-- where the digits at the first step agree
module _ (m f : ℕ) (p : List ℕ) (path : IsPath m (f ∷ p)) (u i : ℕ) (s : digit m i f ≡ digit m (i + u) f) where
  -- two places differ in a digit, and not at the first step
  rest_differ : 1 ≤ u → i + u < carriers m → ((k : ℕ) → Memᴰ k p → digit m i k ≡ digit m (i + u) k) → ⊥
  rest_differ pos fits e =
      let stands : (k : ℕ) → 1 ≤ k → k ≤ m → Memᴰ k (f ∷ p) =
      λ k a b. mem_of_times k (f ∷ p) (omega (arith, path.each k a b)) in
      let same : i ≡ i + u = place_by_digits m i (i + u) (omega arith) fits
      (λ k a b. agree_cons (digit m i) (digit m (i + u)) f p s e k (stands k a b)) in
      omega arith

  pub pivot_odd : 1 ≤ u → i + u < carriers m → OddAround m (pivot m f p u i) i (i + u) (f ∷ p)
  pivot_odd pos fits =
      around_before (digit m i) (digit m (i + u)) f p (is_path_unique m (f ∷ p) path) (digit_lt m i)
      (digit_lt m (i + u)) s (rest_differ pos fits)

  differ_kept : (k : ℕ) → k ≤ m →
      eqb (digit m (flip m (pivot m f p u i) i) k) (digit m (flip m (pivot m f p u i) i + u) k)
      ≡ eqb (digit m i k) (digit m (i + u) k)
  differ_kept k l =
      rw (← (flip_on m f p u i s))
      (eqb_flip m (pivot m f p u i) i (i + u) k (pivot_in m f p path u i).1 l (pivot_same m f p u i s))

  pivot_kept : pivot m f p u (flip m (pivot m f p u i) i) ≡ pivot m f p u i
  pivot_kept =
      step_before_cong _ _ _ _ f p (λ k j. differ_kept k (is_path_within m (f ∷ p) path k (Memᴰ.tail j)).1)

  first_kept : digit m (flip m (pivot m f p u i) i) f ≡ digit m (flip m (pivot m f p u i) i + u) f
  first_kept = eqb-true _ _ (differ_kept f (first_le m f p path) ∙ eq-eqb _ _ s)

  mate_flip_back : mate m (f ∷ p) u (flip m (pivot m f p u i) i) ≡ i
  mate_flip_back =
      mate_flip m f p u (flip m (pivot m f p u i) i) first_kept
      ∙ ap (λ (a : ℕ). flip m a (flip m (pivot m f p u i) i)) pivot_kept
      ∙ flip_flip m (pivot m f p u i) i

  flip_fits : i < carriers m - u → flip m (pivot m f p u i) i < carriers m - u
  flip_fits l =
      let r : (1 ≤ pivot m f p u i) × (pivot m f p u i ≤ m) = pivot_in m f p path u i in
      omega (arith, flip_on m f p u i s, flip_lt m (pivot m f p u i) (i + u) r.0 r.1 (omega arith))

module _ (m f : ℕ) (p : List ℕ) (path : IsPath m (f ∷ p)) (u i : ℕ) where
  pub mate_fits : i < carriers m - u → mate m (f ∷ p) u i < carriers m - u
  mate_fits l = elim (ℕ_discrete (digit m i f) (digit m (i + u) f)) [
    | yes s ↦ rw (mate_flip m f p u i s) (flip_fits m f p path u i s l)
    | no n ↦ rw (mate_self m f p u i n) l
  ]

  pub mate_mate : mate m (f ∷ p) u (mate m (f ∷ p) u i) ≡ i
  mate_mate = elim (ℕ_discrete (digit m i f) (digit m (i + u) f)) [
    | yes s ↦ rw (mate_flip m f p u i s) (mate_flip_back m f p path u i s)
    | no n ↦ rw (mate_self m f p u i n, mate_self m f p u i n)
  ]
