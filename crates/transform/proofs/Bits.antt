-- A 32-bit signed number is read back from its bits, and so are two small ones, added or taken away.
-- Assumes nothing.
use Prim.Native.Nat.{◌^◌, ◌<◌}
use mathlib.Core.Path.{◌≡◌}
use native.Mathlib.Omega.{arith}
use lib.IntN.{ℤ, ◌+ℤ◌, ◌-ℤ◌}
use lib.Signed.{mag}
use mir.Syntax.{w32}
use mir.Val.{of_z, to_z}
use mir.ValLaws.{to_z-of_z}
use Rattle.range.proofs.SumsSigned.{mag_add, mag_sub}
use Rattle.transform.specs.Butterflies.{addable}

bits_back : (z : ℤ) → mag z < 2 ^ 31 → to_z w32 (of_z w32 z) ≡ z
bits_back z h = to_z-of_z w32 z (record { sfits = h })

module _ (x y : ℤ) (small : mag x < addable) (small' : mag y < addable) where
  -- each number as it is read from its bits
  pub sum_back : to_z w32 (of_z w32 (to_z w32 (of_z w32 x) +ℤ to_z w32 (of_z w32 y))) ≡ x +ℤ y
  sum_back =
      rw (bits_back x (omega (arith, small)), bits_back y (omega (arith, small')))
      (bits_back (x +ℤ y) (omega (arith, mag_add x y addable small small')))

  pub difference_back : to_z w32 (of_z w32 (to_z w32 (of_z w32 x) -ℤ to_z w32 (of_z w32 y))) ≡ x -ℤ y
  difference_back =
      rw (bits_back x (omega (arith, small)), bits_back y (omega (arith, small')))
      (bits_back (x -ℤ y) (omega (arith, mag_sub x y addable small small')))
