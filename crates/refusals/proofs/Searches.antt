-- Laws of a search through a slice: what the library's `position` finds, the rules' `first_below` finds. In order:
-- tests that agree find the same; a slice; the front of one.
-- Assumes nothing.
use Prim.Native.Nat.{ℕ, zero, suc, ◌<◌, ◌≤◌}
use native.Mathlib.Decide.{dec_lt}
use native.Mathlib.Omega.{arith}
use mathlib.Core.Path.{◌≡◌, refl, sym, ◌∙◌, ap}
use mathlib.Core.Bool.{Bool}
use mathlib.Core.List.{List}
use Rattle.std.proofs.Common.{length, get_or, take, zero-le, suc-le-suc, length-take-le, get_or-take}
use borrow.Author.Tests.{lt-ltb, le-ltb}
use Rattle.std.specs.Prelude.{None, Some}
use Rattle.std.specs.List.{position, position_or_len}
use Rattle.std.proofs.lemmas.List.Quantifiers.{position-Some}
use Rattle.std.proofs.lemmas.List.Sums.{fails_before_first}
use Rattle.range.specs.Below.{first_below}
use Rattle.range.proofs.Tests.{first_below_some, first_below_none}
use Rattle.refusals.specs.Searched.{search_told}

first_below_same : (n : ℕ) (f g : ℕ → Bool) → ((i : ℕ) → i < n → f i ≡ g i) → first_below n f ≡ first_below n g
unfolding first_below
first_below_same zero f g e = refl
first_below_same (suc n) f g e =
    rw (
      e zero (suc-le-suc zero-le),
      first_below_same n (λ i. f (suc i)) (λ i. g (suc i)) (λ i h. e (suc i) (suc-le-suc h)),
    )

module _ {X : Type 0} (p : X → Bool) (xs : List X) (d : X) where
  abbrev passes_at : ℕ → Bool
  passes_at i = p (get_or xs i d)

  pub position_first_below : search_told (position p xs) ≡ first_below (length xs) passes_at
  position_first_below = go (dec_lt (position_or_len p xs) (length xs))
    where
      go : Dec (position_or_len p xs < length xs) → search_told (position p xs) ≡ first_below (length xs) passes_at
      go (yes l) =
          let is : position p xs ≡ Some (position_or_len p xs) = rw (lt-ltb _ _ l) in
          let found = position-Some p xs (position_or_len p xs) d is in
          ap search_told is ∙ sym (first_below_some (length xs) passes_at _ l found.1 found.2)
      go (no l) =
          let none_left : length xs ≤ position_or_len p xs = omega (arith, l) in
          let is : position p xs ≡ None = rw (le-ltb _ _ none_left) in
          ap search_told is
          ∙ sym
          (first_below_none (length xs) passes_at (λ i h. fails_before_first p xs i d (omega (arith, h, none_left))))

module _ {X : Type 0} (p : X → Bool) (xs : List X) (d : X) (n : ℕ) (h : n ≤ length xs) where
  pub position_front : search_told (position p (take n xs)) ≡ first_below n (λ i. p (get_or xs i d))
  position_front =
      position_first_below p (take n xs) d
      ∙ ap (λ k. first_below k (λ i. p (get_or (take n xs) i d))) (length-take-le n xs h)
      ∙ first_below_same n _ _ (λ i l. ap p (get_or-take n xs i d l))
