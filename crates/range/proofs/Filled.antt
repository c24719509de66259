-- Laws of filled: a list filled from the front. In order: one more; the whole; a turn of a loop that fills a list, and
-- its end; the length, the elements, the front and what stands behind it; equal elements; filled again, and with its
-- own elements.
-- Not here: list_below by itself (Lists).  Assumes nothing.
use Prim.Native.Nat.{ℕ, zero, suc, ◌+◌, ◌≤◌, ◌<◌}
use native.Mathlib.Nat.{not-suc-le-zero, le_of_suc-le-suc}
use native.Mathlib.Numerals.{add-one}
use native.Mathlib.Omega.{arith}
use mathlib.Core.Path.{◌≡◌, refl, sym, ◌∙◌, ap}
use mathlib.Core.List.{List, [], ◌∷◌, ◌++◌, append-nil}
use lib.ListN.{length, get_or, take, drop, set, length-append, length-drop, take-append-drop, get_or-append}
use lib.Seq.{drop-length, take_at, drop_at, length-take-le, ext_get_or, get_or-take}
use Rattle.range.specs.Below.{list_below, filled}
use Rattle.range.proofs.Lists.{length_list_below, list_below_at, list_below_cong}

module _ {A : Type 0} where
  filled_suc : (i : ℕ) (f : ℕ → A) (d : List A) → i < length d → set (filled i f d) i (f i) ≡ filled (suc i) f d
  unfolding list_below
  filled_suc i f [] h = absurd (not-suc-le-zero h)
  filled_suc zero f (x ∷ d) h = refl
  filled_suc (suc i) f (x ∷ d) h =
      ap (λ (t : List A). f zero ∷ t) (filled_suc i (λ k. f (suc k)) d (le_of_suc-le-suc h))

  pub filled_zero : (f : ℕ → A) (d : List A) → d ≡ filled zero f d
  unfolding list_below
  filled_zero f d = refl

  pub filled_step : (i : ℕ) (f : ℕ → A) (d : List A) → i < length d → set (filled i f d) i (f i) ≡ filled (i + 1) f d
  filled_step i f d h = rw add-one (filled_suc i f d h)

  pub filled_all : (f : ℕ → A) (d : List A) → filled (length d) f d ≡ list_below (length d) f
  filled_all f d = rw drop-length (append-nil (list_below (length d) f))

  -- one turn of a loop that fills a list: what is stored at i is f's element there
  pub filled_turn : (i : ℕ) (f : ℕ → A) (d xs : List A) (v : A) → i < length d → xs ≡ filled i f d → v ≡ f i →
      set xs i v ≡ filled (i + 1) f d
  filled_turn i f d xs v h e p = rw (e, p) (filled_step i f d h)

  -- the end of such a loop: i has reached the length
  pub filled_end : (n i : ℕ) (f : ℕ → A) (d xs : List A) → length d ≡ n → i ≡ n → xs ≡ filled i f d →
      xs ≡ list_below n f
  filled_end n i f d xs l q e =
      e ∙ ap (λ (k : ℕ). filled k f d) (q ∙ sym l) ∙ filled_all f d ∙ ap (λ (k : ℕ). list_below k f) l

  pub length_filled : (n : ℕ) (f : ℕ → A) (d : List A) → n ≤ length d → length (filled n f d) ≡ length d
  length_filled n f d h = simp (length-append, length_list_below, length-drop) (omega arith)

  pub filled_at : (n : ℕ) (f : ℕ → A) (d : List A) (i : ℕ) (z : A) → i < n → get_or (filled n f d) i z ≡ f i
  filled_at n f d i z h =
      get_or-append (list_below n f) (drop n d) z i (rw length_list_below h) ∙ list_below_at n f i z h

  pub take_filled : (n : ℕ) (f : ℕ → A) (d : List A) → take n (filled n f d) ≡ list_below n f
  take_filled n f d = take_at (list_below n f) (drop n d) n (length_list_below n f)

  pub drop_filled : (n : ℕ) (f : ℕ → A) (d : List A) → drop n (filled n f d) ≡ drop n d
  drop_filled n f d = drop_at (list_below n f) (drop n d) n (length_list_below n f)

  pub filled_cong : (n : ℕ) (f g : ℕ → A) (d : List A) → ((i : ℕ) → i < n → f i ≡ g i) → filled n f d ≡ filled n g d
  filled_cong n f g d e = ap (λ (t : List A). t ++ drop n d) (list_below_cong n f g e)

  -- what was filled in before is gone
  pub filled_filled : (n : ℕ) (f g : ℕ → A) (d : List A) → filled n f (filled n g d) ≡ filled n f d
  filled_filled n f g d = ap (λ (t : List A). list_below n f ++ t) (drop_filled n g d)

  -- filled with its own elements, a list stays
  pub filled_same : (n : ℕ) (d : List A) (z : A) → n ≤ length d → filled n (λ i. get_or d i z) d ≡ d
  filled_same n d z h =
      let l : length (list_below n (λ i. get_or d i z)) ≡ n = length_list_below n (λ i. get_or d i z) in
      let e : list_below n (λ i. get_or d i z) ≡ take n d = ext_get_or z _ _ (l ∙ sym (length-take-le n d h)) (λ i b.
      list_below_at n (λ k. get_or d k z) i z (rw l at b) ∙ sym (get_or-take n d i z (rw l at b))) in
      ap (λ (t : List A). t ++ drop n d) e ∙ take-append-drop n d
