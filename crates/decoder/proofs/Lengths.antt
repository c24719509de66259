-- How long slices and tables are, as code counts them. In order: soft values; a table of gains fits its area.
-- Assumes nothing.
use Prim.Native.Nat.{ℕ, ◌*◌, ◌≤◌}
use native.Mathlib.Nat.{mul_comm, mul-le-mul}
use mathlib.Core.Path.{◌≡◌, ◌∙◌}
use mathlib.Core.Bool.{true}
use lib.Pow.{pow_mono}
use Rattle.rules.specs.Shape.{greatest_m, in_shape, phases, half_turn, carriers}
use Rattle.rules.specs.Soft.{soft_length}
use Rattle.rules.proofs.Range.{in_shape_range, carriers_most}
use Rattle.engine.specs.Search.{greatest_decoded}
use Rattle.signals.proofs.Clean.{soft_length_half}

-- the length of soft values is the length that code asks for
pub soft_length_product : (h m : ℕ) → in_shape h m ≡ true → h ≤ 2 → soft_length h m ≡ half_turn h * carriers m
soft_length_product h m e two =
    soft_length_half h m (in_shape_range h m e).h_least two ∙ mul_comm (carriers m) (half_turn h)

-- a table of gains fits its area
pub gains_fit : (h m : ℕ) → in_shape h m ≡ true → h ≤ greatest_decoded →
    phases h * carriers m ≤ phases greatest_decoded * carriers greatest_m
gains_fit h m e two = mul-le-mul (pow_mono two) (carriers_most h m (in_shape_range h m e))
