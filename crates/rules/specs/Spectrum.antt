-- The transform: 01 "The transform by itself".
-- Defines:  widest                the range of a transform input is -widest..widest - 1; it stands here alone, and the
--                                 bounds of every stage follow from it
--           accepted z            whether z lies in that range
--           odd n                 whether n is odd
--           shared m i j          how many ones the digits of i and j share
--           spectrum_at m y j     entry j of the spectrum of y
--           stage m k y i         what stage k writes at place i, from y
--           stages m k y          what stands after stages 1, .., k
-- Laws: crate spectrum; samples: proofs/Samples.antt.  Assumes nothing: these are definitions.
use Rattle.std.specs.Prelude.{ℕ, zero, suc, ◌+◌, ◌-◌, ◌*◌, ◌%◌, ◌^◌, Bool, ◌&&◌, cond, eqb, ℤ, pos, negsuc, ◌+ℤ◌, ◌-ℤ◌}
use Rattle.std.specs.Int.Signed.{le_z}
use Rattle.range.specs.Below.{sum_below}
use Rattle.range.specs.Signed.{sumℤ, negated_if}
use Rattle.rules.specs.Shape.{carriers}
use Rattle.rules.specs.Place.{digit}

abbrev pub widest : ℕ
widest = 32768

abbrev pub accepted : ℤ → Bool
accepted z = le_z (negsuc (widest - 1)) z && le_z z (pos (widest - 1))

abbrev pub odd : ℕ → Bool
odd n = eqb (n % 2) 1

unfoldable pub shared : ℕ → ℕ → ℕ → ℕ
shared m i j = sum_below m (λ k. digit m i (suc k) * digit m j (suc k))

unfoldable pub spectrum_at : ℕ → (ℕ → ℤ) → ℕ → ℤ
spectrum_at m y j = sumℤ (carriers m) (λ i. negated_if (odd (shared m i j)) (y i))

-- the two places of a pair differ in x_k alone, so they lie 2^(m-k) apart, and the first is the one with x_k = 0:
-- the sum goes there, and the first less the second goes where x_k = 1
unfoldable pub stage : ℕ → ℕ → (ℕ → ℤ) → ℕ → ℤ
stage m k y i = cond (eqb (digit m i k) 0) (y i +ℤ y (i + 2 ^ (m - k))) (y (i - 2 ^ (m - k)) -ℤ y i)

unfoldable pub stages : ℕ → ℕ → (ℕ → ℤ) → ℕ → ℤ
stages m zero y = y
stages m (suc k) y = stage m (suc k) (stages m k y)
