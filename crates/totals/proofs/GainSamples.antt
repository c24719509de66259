-- Gains of one place, worked out: they pin the definitions of specs/Gains.antt. In order: soft values 5 and -32,768 for
-- four phases, so that symbols 0 to 3 add 5, -32,768, -5, 32,768; symbol 3 of four.
-- Assumes nothing.
use mathlib.Core.Path.{◌≡◌, refl}
use mathlib.Core.List.{[], ◌∷◌}
use lib.IntN.{pos, negsuc}
use Rattle.range.specs.Below.{list_below}
use Rattle.rules.specs.Pair.{minus}
use Rattle.rules.specs.Distance.{lee_of}
use Rattle.totals.specs.Gains.{soft_gain, nearness, hard_gain}

soft_four : list_below 4 (soft_gain 2 (pos 1 ∷ pos 2 ∷ pos 5 ∷ negsuc 32767 ∷ []) 1) ≡ 32773 ∷ 0 ∷ 32763 ∷ 65536 ∷ []
unfolding list_below soft_gain
soft_four = refl

hard_four : list_below 4 (hard_gain 2 (0 ∷ 3 ∷ []) 1) ≡ 1 ∷ 0 ∷ 1 ∷ 2 ∷ []
unfolding list_below hard_gain nearness lee_of minus
hard_four = refl
