-- What `power` gives. In order: a power as code shifts it; one below 64 bits; for a shape in range the phases, the
-- carriers, the labels of a path, the paths in use.
-- Assumes nothing.
use Prim.Native.Nat.{ℕ, ◌+◌, ◌*◌, ◌%◌, ◌^◌, ◌<◌}
use native.Mathlib.Nat.{one-mul}
use native.Mathlib.Omega.{arith}
use mathlib.Core.Path.{◌≡◌, sym, ◌∙◌, ap}
use mathlib.Core.Bool.{true, cond}
use lib.Dec.{ltb, lit<}
use lib.Pow.{shl_exact}
use borrow.Author.Tests.{lt-ltb}
use Rattle.range.proofs.Tests.{and_right}
use Rattle.rules.specs.Shape.{in_h, in_m, in_shape, phases, carriers, path_bits, paths_in_use}
use Rattle.rules.proofs.Range.{InRange, in_m_range, in_shape_range, path_bits_le, coefficient_bits_le, phases_pow}

-- a shift of 1 by less than the width loses nothing
pub shift_is : (e : ℕ) → e < 64 → (1 * 2 ^ e) % 2 ^ 64 ≡ 2 ^ e
shift_is e h = shl_exact {a = 1} 1 e 64 (lit< tt) (omega arith) ∙ one-mul (2 ^ e)

-- what `power` gives below 64
pub power_is : (e : ℕ) → e < 64 → cond (ltb e 64) (2 ^ e) 0 ≡ 2 ^ e
power_is e h = rw (lt-ltb e 64 h)

pub power_phases : (h m : ℕ) → in_shape h m ≡ true → cond (ltb h 64) (2 ^ h) 0 ≡ phases h
power_phases h m e = power_is h (omega (arith, (in_shape_range h m e).h_most))

pub power_carriers_of_in_m : (m : ℕ) → in_m m ≡ true → cond (ltb m 64) (2 ^ m) 0 ≡ carriers m
power_carriers_of_in_m m e = power_is m (omega (arith, (in_m_range m e).1))

pub power_carriers : (h m : ℕ) → in_shape h m ≡ true → cond (ltb m 64) (2 ^ m) 0 ≡ carriers m
power_carriers h m e = power_carriers_of_in_m m (and_right (in_h h) (in_m m) e)

pub power_labels : (h m : ℕ) → InRange h m → cond (ltb (h * (m + 1)) 64) (2 ^ (h * (m + 1))) 0 ≡ phases h ^ (m + 1)
power_labels h m r = power_is _ (omega (arith, coefficient_bits_le h m r)) ∙ sym (phases_pow h (m + 1))

pub power_uses : (m e : ℕ) → e ≡ path_bits m → cond (ltb e 64) (2 ^ e) 0 ≡ paths_in_use m
power_uses m e q = power_is e (omega (arith, path_bits_le m)) ∙ ap (λ (k : ℕ). 2 ^ k) q
