-- What the transform promises: 01 "The transform by itself", "When the receiver says no".
-- Defines:  Ran m a b n a' b'       the promise of `run`: how many entries it gives, and both areas afterwards
--           Handed m x y r          what the part r is that the transform hands back, of the areas x and y: what it
--                                   holds, and where it stands
--           AtLastOf x y a b        what the areas x and y hold at last, when their loans are over: a and b
--           AtLast m x y            the same, of the areas that the transform leaves: each of them, whole
-- Laws: proofs/AreasAfter.antt, Unique.antt, and crate theorems.  Assumes nothing: these are definitions.
use Rattle.std.specs.Prelude.{ℕ, ◌≡◌, cond, List, ℤ}
use Rattle.std.specs.Borrow.{Fml, fsep, i32, Bor, MutBor}
use denote.Slice.{finally}
use Rattle.rules.specs.Areas.{first_after, second_after, part_of, part_length, part_in_first}

pub record Ran (m : ℕ) (a b : List ℤ) (n : ℕ) (a' b' : List ℤ) : Type 0 where
  pub count : n ≡ part_length m a b
  pub first : a' ≡ first_after m a b
  pub second : b' ≡ second_after m a b

-- a part stands at the front of an area where their pointers are equal
pub record Handed (m : ℕ) (x y : MutBor (List ℤ)) (r : Bor (List ℤ)) : Type 0 where
  pub contents : r.now ≡ part_of m x.now y.now
  pub place : r.ref_ptr ≡ cond (part_in_first m x.now y.now) x.ref_ptr y.ref_ptr

-- an area is spoken of by its ghost name, under which the logic keeps its last contents
abbrev pub AtLastOf : MutBor (List ℤ) → MutBor (List ℤ) → List ℤ → List ℤ → Fml
AtLastOf x y a b = fsep (finally i32 x.ghost_name a) (finally i32 y.ghost_name b)

abbrev pub AtLast : ℕ → MutBor (List ℤ) → MutBor (List ℤ) → Fml
AtLast m x y = AtLastOf x y (first_after m x.now y.now) (second_after m x.now y.now)
