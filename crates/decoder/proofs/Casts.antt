-- Casts of signed numbers. A local holds the bits of a signed number: `of_z` writes them and `to_z` reads them back.
-- In order: a sixteen-bit number made wider; a whole number that is a natural one below 2^31, as a local holds it, and
-- its cast to an unsigned number.
-- Not here: what is raised and lowered (totals, SoftTotals).  Assumes nothing.
use Prim.Native.Nat.{ℕ, ◌^◌, ◌<◌}
use native.Mathlib.Omega.{arith}
use mathlib.Core.Path.{◌≡◌, sym, ◌∙◌, ap, subst}
use lib.Dec.{T}
use lib.IntN.{ℤ, pos, nat_abs}
use lib.Signed.{non_neg}
use mir.Syntax.{w16, w32}
use mir.Val.{Fits, SFits, of_z, to_z}
use mir.ValLaws.{to_z-of_z}

module _ (y : ℤ) (f : SFits w16 y) where
  wide : SFits w32 y
  wide = record { sfits = omega (arith, f.sfits) }

  pub widened_fits : SFits w32 (to_z w16 (of_z w16 y))
  widened_fits = rw (to_z-of_z w16 y f) wide

  pub widened_is : to_z w32 (of_z w32 (to_z w16 (of_z w16 y))) ≡ y
  widened_is = ap (λ (u : ℤ). to_z w32 (of_z w32 u)) (to_z-of_z w16 y f) ∙ to_z-of_z w32 y wide

module _ (z : ℤ) (n : ℕ) (e : pos n ≡ z) (l : n < 2 ^ 31) where
  pub natural_fits : SFits w32 z
  natural_fits = subst (SFits w32) e (record { sfits = l })

  pub natural_is : to_z w32 (of_z w32 z) ≡ pos n
  natural_is = to_z-of_z w32 z natural_fits ∙ sym e

  pub natural_casts : T (non_neg (to_z w32 (of_z w32 z))) × Fits w32 (nat_abs (to_z w32 (of_z w32 z)))
  natural_casts = rw natural_is (tt, record { fits = omega arith })
