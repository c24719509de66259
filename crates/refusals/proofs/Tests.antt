-- Laws of the tests as code makes them. In order: a power that does not fit 64 bits is more than any number that does;
-- twice a power; how many entries of an area are looked at; looking at more finds nothing more.  Assumes nothing.
use Prim.Native.Nat.{ℕ, ◌+◌, ◌*◌, ◌^◌, ◌≤◌, ◌<◌, min}
use native.Mathlib.Nat.{mul_comm, min-eq_left, min-eq_right}
use native.Mathlib.Decide.{dec_lt}
use native.Mathlib.Omega.{arith}
use mathlib.Core.Path.{◌≡◌, sym, ◌∙◌, ap}
use mathlib.Core.Bool.{Bool, false, not, cond}
use mathlib.Core.List.{List}
use lib.Dec.{ltb}
use lib.IntN.{ℤ, pos}
use lib.ListN.{length, get_or-eq_default}
use lib.Pow.{pow-add, pow_mono}
use Rattle.range.specs.Below.{first_below}
use Rattle.range.specs.Signed.{entry}
use Rattle.range.proofs.Tests.{first_below_more}
use Rattle.rules.specs.Shape.{carriers}
use Rattle.rules.specs.Spectrum.{accepted}
use Rattle.rules.specs.Table.{bad_value}
use Rattle.shape.proofs.Powers.{power_is}

pub lt_power : (x e : ℕ) → x < 2 ^ 64 → 64 ≤ e → x < 2 ^ e
lt_power x e h l = omega (arith, pow_mono l)

pub power_next : (m : ℕ) → 2 ^ (m + 1) ≡ 2 * 2 ^ m
power_next m = pow-add 2 m 1 ∙ mul_comm (2 ^ m) 2

pub power_reached : (n m : ℕ) → n < 2 ^ 64 → carriers m ≤ n → cond (ltb m 64) (2 ^ m) 0 ≡ min n (carriers m)
power_reached n m fits h = go (dec_lt m 64)
  where
    go : Dec (m < 64) → cond (ltb m 64) (2 ^ m) 0 ≡ min n (carriers m)
    go (yes l) = power_is m l ∙ sym (min-eq_right h)
    go (no l) = absurd (omega (arith, lt_power n m fits (omega arith)))

module _ (m : ℕ) (y : List ℤ) where
  abbrev outside : ℕ → Bool
  outside i = not (accepted (entry y i))

  -- behind the end of an area every entry counts as 0
  pub bad_value_looked_at : first_below (min (length y) (carriers m)) outside ≡ bad_value m y
  unfolding bad_value
  bad_value_looked_at = go (dec_lt (length y) (carriers m))
    where
      behind : (i : ℕ) → length y ≤ i → outside i ≡ false
      behind i l = ap (λ (z : ℤ). not (accepted z)) (get_or-eq_default y (pos 0) l)

      go : Dec (length y < carriers m) →
          first_below (min (length y) (carriers m)) outside ≡ first_below (carriers m) outside
      go (yes l) =
          let shorter : length y ≤ carriers m = omega arith in
          ap (λ (n : ℕ). first_below n outside) (min-eq_left shorter)
          ∙ sym (first_below_more (length y) (carriers m) outside shorter behind)
      go (no l) =
          let longer : carriers m ≤ length y = omega arith in
          ap (λ (n : ℕ). first_below n outside) (min-eq_right longer)
