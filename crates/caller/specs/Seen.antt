-- What a caller of the transform sees: the part, and then the areas.
-- Defines:  Seen m a b r a' b'     what r tells after a transform with that m between a and b, and what the two areas
--                                  hold then, a' and b', each of them whole
-- Laws: proofs/SeenLaws.antt.  Assumes nothing: these are definitions.
use Rattle.std.specs.Prelude.{ℕ, ◌≡◌, cond, List, ℤ}
use Rattle.range.specs.Signed.{entry}
use Rattle.rules.specs.Areas.{in_first, first_after, second_after, part_of}
use Rattle.caller.specs.declared.Ends.{Ends}

-- the number kept is read of the second area for even m, of the first for odd m
pub record Seen (m : ℕ) (a b : List ℤ) (r : Ends) (a' b' : List ℤ) : Type 0 where
  pub total : r.total ≡ entry (part_of m a b) 0
  pub kept : r.kept ≡ cond (in_first m) (entry (second_after m a b) 0) (entry (first_after m a b) 0)
  pub first : a' ≡ first_after m a b
  pub second : b' ≡ second_after m a b
