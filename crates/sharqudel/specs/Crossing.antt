-- How an outcome leaves a call that programs in other languages make: as a number, and in cells.
-- Defines:  kind_of o            the refusal's number in 01's table, and 0 where nothing is refused
--           given_or o f old     a cell for what is given: f of it, and where o refuses what the cell held before
--           carried_or o i old   a cell for number i that a refusal carries (0 its first bad place, 1 which word): that
--                                number, and where there is none what the cell held before
--           Tells why r p₀ p     a refusal's number r, and its place into a cell, which held p₀, and then p
--           area_of m            the number of the area that holds the spectrum: 1 for even m, 2 for odd m
-- 0 is no refusal's number, so that the number alone tells whether a call was refused; which cells a refusal writes it
-- tells too (proofs/Numbers.antt).
-- Assumes nothing: these are definitions.
use Rattle.std.specs.Prelude.{ℕ, ◌≡◌, cond, get_or}
use Rattle.rules.specs.Outcome.{Outcome, gives, refuses}
use Rattle.rules.specs.Areas.{in_first}
use Rattle.kinds.specs.declared.Refusal.{Refusal}
use Rattle.kinds.specs.Refusals.{refusal_number, refusal_carries}

abbrev pub kind_of : {A : Type 0} → Outcome A → ℕ
kind_of (gives a) = 0
kind_of (refuses k carried) = k

abbrev pub given_or : {A B : Type 0} → Outcome A → (A → B) → B → B
given_or (gives a) f old = f a
given_or (refuses k carried) f old = old

abbrev pub carried_or : {A : Type 0} → Outcome A → ℕ → ℕ → ℕ
carried_or (gives a) i old = old
carried_or (refuses k carried) i old = get_or carried i old

pub record Tells (why : Refusal) (r p₀ p : ℕ) : Type 0 where
  pub number : r ≡ refusal_number why
  pub place : p ≡ get_or (refusal_carries why) 0 p₀

abbrev pub area_of : ℕ → ℕ
area_of m = cond (in_first m) 1 2
