-- Products, for loops that go through runs of k. In order: one more of a below b, times k; a product is at least its
-- first factor.
-- Assumes nothing.
use Prim.Native.Nat.{ℕ, ◌+◌, ◌*◌, ◌≤◌, ◌<◌}
use native.Mathlib.Nat.{mul-le-mul}
use native.Mathlib.Omega.{arith}

pub times_within : (a b k : ℕ) → a < b → a * k + k ≤ b * k
times_within a b k l = omega (arith, mul-le-mul {n₁ = a + 1} {m₁ = k} {n₂ = b} {m₂ = k} (omega arith) (omega arith))

pub times_least : (a k : ℕ) → 1 ≤ k → a ≤ a * k
times_least a k l = omega (arith, mul-le-mul {n₁ = a} {m₁ = 1} {n₂ = a} {m₂ = k} (omega arith) l)
