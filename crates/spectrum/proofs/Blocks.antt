-- The places of a stage counted by blocks, as a loop meets them: stage k works in blocks of 2 s places, s = 2^(m-k),
-- and place b of a block, b < s, is paired with place b + s. In order: where place b of block a stands; a block that
-- begins before the end of t blocks ends there at the latest; how many blocks a stage has.
-- Not here: pairs by the digit of a place (StagePairs).  Assumes nothing.
use Prim.Native.Nat.{ℕ, suc, ◌+◌, ◌-◌, ◌*◌, ◌/◌, ◌^◌, ◌≤◌, ◌<◌}
use native.Mathlib.Nat.{lt_of_mul-lt-mul_right, mul-le-mul_right, mul_assoc, suc-mul, pow-suc}
use mathlib.Core.Path.{◌≡◌, ◌∙◌}
use lib.Arith.{digits_div}
use Rattle.rules.specs.Shape.{carriers}
use Rattle.places.proofs.Twins.{carriers_blocks}
use Rattle.spectrum.proofs.StagePairs.{double_mul}

pub block_div : (s a b i : ℕ) → b < s → i ≡ a * (2 * s) + b → i / s ≡ a + a
block_div s a b i l q = rw (q, double_mul a s) (digits_div (a + a) l)

pub block_le : (s a t : ℕ) → a * (2 * s) < t * (2 * s) → a * (2 * s) + 2 * s ≤ t * (2 * s)
block_le s a t h = rw (← (suc-mul a (2 * s))) (mul-le-mul_right (2 * s) (lt_of_mul-lt-mul_right (2 * s) h))

-- stage k + 1 has 2^k blocks
pub block_count : (m k : ℕ) → suc k ≤ m → carriers m ≡ 2 ^ k * (2 * 2 ^ (m - suc k))
block_count m k h = carriers_blocks m (suc k) h ∙ rw (pow-suc, mul_assoc)
