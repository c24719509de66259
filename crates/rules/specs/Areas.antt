-- What the transform leaves in its two areas, and the part that it hands back: 01 "The transform by itself".
-- Throughout, a and b are what the first and the second area hold before.
-- Defines:  in_first m            whether the last stage writes the first area: for even m
--           first_after m a b     what the first area holds afterwards, and
--           second_after m a b    the second: one the spectrum, the other what stood after stage m - 1
--           part_of m a b         the part handed back: the spectrum, or nothing where the transform is refused
--           part_length m a b     how long it is
--           part_in_first m a b   whether it stands at the front of the first area: for even m, and where refused
-- Laws: transform, proofs/AreasAfter.antt; samples: proofs/AreaSamples.antt.  Assumes nothing: these are definitions.
use Rattle.std.specs.Prelude.{ℕ, ◌-◌, ◌%◌, Bool, true, cond, List, [], eqb, ℤ, length}
use Rattle.range.specs.Below.{list_below, filled}
use Rattle.range.specs.Signed.{entry}
use Rattle.rules.specs.Shape.{carriers}
use Rattle.rules.specs.Spectrum.{spectrum_at, stages}
use Rattle.rules.specs.Outcome.{leaves}
use Rattle.rules.specs.Refusal.{transform_refusal}

abbrev pub in_first : ℕ → Bool
in_first m = eqb (m % 2) 0

-- the spectrum goes where the last stage writes, and what stood after stage m - 1 is what that stage reads; entries
-- from N on stay
unfoldable pub first_after : ℕ → List ℤ → List ℤ → List ℤ
first_after m a b =
    leaves (transform_refusal m a (length b)) a
    (filled (carriers m) (cond (in_first m) (spectrum_at m (entry a)) (stages m (m - 1) (entry a))) a)

unfoldable pub second_after : ℕ → List ℤ → List ℤ → List ℤ
second_after m a b =
    leaves (transform_refusal m a (length b)) b
    (filled (carriers m) (cond (in_first m) (stages m (m - 1) (entry a)) (spectrum_at m (entry a))) b)

unfoldable pub part_of : ℕ → List ℤ → List ℤ → List ℤ
part_of m a b = leaves (transform_refusal m a (length b)) [] (list_below (carriers m) (spectrum_at m (entry a)))

unfoldable pub part_length : ℕ → List ℤ → List ℤ → ℕ
part_length m a b = leaves (transform_refusal m a (length b)) 0 (carriers m)

unfoldable pub part_in_first : ℕ → List ℤ → List ℤ → Bool
part_in_first m a b = leaves (transform_refusal m a (length b)) true (in_first m)
