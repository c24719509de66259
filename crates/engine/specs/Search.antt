-- What a search through all labels promises.
-- Defines:  greatest_decoded    the greatest h that the tables have room for
--           most_gain           the greatest gain that is taken
--           most_labels         how many labels the greatest shape has, so that a label number is below it
--           accepts h m g       whether g is a table of gains that can be searched for the shape
--           searched h m g      the standing after all labels; nobody leads where g is not accepted
-- Assumes nothing: these are definitions.
use Rattle.std.specs.Prelude.{ℕ, ◌*◌, ◌^◌, Bool, cond, ◌&&◌, List, eqb, leb, length, get_or}
use Rattle.range.specs.Below.{all_below}
use Rattle.rules.specs.Shape.{in_shape, phases, carriers, most_bits}
use Rattle.rules.specs.Label.{labels}
use Rattle.totals.specs.Totals.{total_of}
use Rattle.standing.specs.declared.Standing.{Standing}
use Rattle.standing.specs.Lead.{nobody, lead}

abbrev pub greatest_decoded : ℕ
greatest_decoded = 2

abbrev pub most_gain : ℕ
most_gain = 2 ^ 25

abbrev pub most_labels : ℕ
most_labels = 2 ^ most_bits

unfoldable pub accepts : ℕ → ℕ → List ℕ → Bool
accepts h m g =
    in_shape h m && (leb h greatest_decoded && (eqb (length g) (phases h * carriers m)
    && all_below (length g) (λ i. leb (get_or g i 0) most_gain)))

unfoldable pub searched : ℕ → ℕ → List ℕ → Standing
searched h m g = cond (accepts h m g) (lead (total_of h m g) (labels h m)) nobody
