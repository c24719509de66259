-- Small sums done by hand, of what a transform leaves in its areas and of what it refuses: rules' Areas and Refusal.
-- In order: an even number of stages, an odd one, where the part stands; values out of range, and behind N; lengths;
-- the part, and a refused one; areas of a refused transform.  Assumes nothing.
use mathlib.Core.Path.{◌≡◌, refl}
use mathlib.Core.Bool.{true, false}
use mathlib.Core.List.{List, [], ◌∷◌}
use lib.IntN.{ℤ, pos, negsuc}
use Rattle.range.specs.Below.{sum_below, first_below, list_below}
use Rattle.range.specs.Signed.{sumℤ}
use Rattle.rules.specs.Place.{digit}
use Rattle.rules.specs.Spectrum.{shared, spectrum_at, stage, stages}
use Rattle.rules.specs.Outcome.{refuses, allowed}
use Rattle.rules.specs.Table.{bad_value}
use Rattle.rules.specs.Refusal.{transform_refusal}
use Rattle.rules.specs.Areas.{first_after, second_after, part_of, part_length, part_in_first}
use Rattle.rules.proofs.Samples.{count}

-- two stages between areas of five: the spectrum ends in the first, what stood after stage 1 in the second, and the
-- fifth entry of each stays
abbrev five_first : List ℤ
five_first = pos 1 ∷ pos 2 ∷ pos 3 ∷ pos 4 ∷ pos 7 ∷ []

abbrev five_second : List ℤ
five_second = pos 0 ∷ pos 0 ∷ pos 0 ∷ pos 0 ∷ pos 9 ∷ []

even_first : first_after 2 five_first five_second ≡ pos 10 ∷ negsuc 1 ∷ negsuc 3 ∷ pos 0 ∷ pos 7 ∷ []
unfolding first_after transform_refusal bad_value first_below list_below spectrum_at shared digit sum_below sumℤ
even_first = refl

even_second : second_after 2 five_first five_second ≡ pos 4 ∷ pos 6 ∷ negsuc 1 ∷ negsuc 1 ∷ pos 9 ∷ []
unfolding second_after transform_refusal bad_value first_below list_below stages stage digit
even_second = refl

-- three stages of 1, .., 8: the spectrum ends in the second, and its part is of the second
abbrev eight : List ℤ
eight = list_below 8 count

odd_second : second_after 3 eight eight
    ≡ pos 36 ∷ negsuc 3 ∷ negsuc 7 ∷ pos 0 ∷ negsuc 15 ∷ pos 0 ∷ pos 0 ∷ pos 0 ∷ []
unfolding second_after transform_refusal bad_value first_below list_below spectrum_at shared digit sum_below sumℤ
odd_second = refl

odd_first : first_after 3 eight eight
    ≡ pos 16 ∷ pos 20 ∷ negsuc 3 ∷ negsuc 3 ∷ negsuc 7 ∷ negsuc 7 ∷ pos 0 ∷ pos 0 ∷ []
unfolding first_after transform_refusal bad_value first_below list_below stages stage digit
odd_first = refl

part_stands : (part_in_first 2 five_first five_second ≡ true) × (part_in_first 3 eight eight ≡ false)
unfolding part_in_first transform_refusal bad_value first_below list_below
part_stands = (refl, refl)

-- the first value out of range is named; -32,768 and 32,767 are in range
ends : List ℤ
ends = negsuc 32767 ∷ pos 32767 ∷ pos 32768 ∷ negsuc 32768 ∷ []

value_refused : transform_refusal 2 ends 4 ≡ refuses 7 (2 ∷ [])
unfolding transform_refusal bad_value first_below ends
value_refused = refl

value_below : transform_refusal 2 (negsuc 32768 ∷ ends) 4 ≡ refuses 7 (0 ∷ [])
unfolding transform_refusal bad_value first_below ends
value_below = refl

-- what lies behind the first N is not looked at
value_behind : transform_refusal 2 (pos 1 ∷ pos 2 ∷ pos 3 ∷ pos 4 ∷ pos 32768 ∷ []) 4 ≡ allowed
unfolding transform_refusal bad_value first_below
value_behind = refl

-- either area one entry short, before a value is looked at
lengths_refused : (transform_refusal 2 (pos 32768 ∷ pos 2 ∷ pos 3 ∷ []) 4 ≡ refuses 2 [])
    × (transform_refusal 2 ends 3 ≡ refuses 2 [])
unfolding transform_refusal ends
lengths_refused = (refl, refl)

-- the part of two stages; a refused transform, of three stages too, hands back nothing, at the front of the first area,
-- and both areas stay
part_even : (part_of 2 five_first five_second ≡ pos 10 ∷ negsuc 1 ∷ negsuc 3 ∷ pos 0 ∷ [])
    × (part_length 2 five_first five_second ≡ 4)
unfolding part_of part_length transform_refusal bad_value first_below list_below spectrum_at shared digit sum_below sumℤ
part_even = (refl, refl)

part_refused : (part_of 3 five_first five_second ≡ []) × (part_length 3 five_first five_second ≡ 0)
    × (part_in_first 3 five_first five_second ≡ true)
unfolding part_of part_length part_in_first transform_refusal
part_refused = (refl, refl, refl)

areas_refused : (first_after 3 five_first five_second ≡ five_first)
    × (second_after 3 five_first five_second ≡ five_second)
unfolding first_after second_after transform_refusal
areas_refused = (refl, refl)
