-- Numbers below 2. Assumes nothing.
use Prim.Native.Nat.{ℕ, zero, suc, ◌<◌}
use native.Mathlib.Omega.{arith}
use mathlib.Core.Path.{◌≡◌, refl}

-- what holds where a number below 2 is 0, and where it is 1, holds
pub bit_cases : {P : Type 0} (d : ℕ) → d < 2 → (d ≡ 0 → P) → (d ≡ 1 → P) → P
bit_cases zero h f g = f refl
bit_cases (suc zero) h f g = g refl
bit_cases (suc (suc d)) h f g = absurd (omega arith)
