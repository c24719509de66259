-- The envelope power of a word, in whole numbers: 001 (3) and Theorem 2. Words are taken as functions of the place.
-- The moments told of are s / 2^r of a symbol period, for every s and every r from h on. At such a moment each carrier
-- stands at a power of the phase with 2^r steps to a turn: carrier i has turned by s i steps since the period began. So
-- the envelope power is a sum of powers of that phase, told by its coordinates as in Autocorrelation.
-- Defines:  phase_at h a r s i          the phase of carrier i at moment s / 2^r, of 2^r
--           envelope_power h n a r s    the coordinates of P_a at that moment: the sum over i and j of the phase of
--                                       carrier i less that of carrier j
-- Laws: crate golay; samples: proofs/Samples.antt.  Assumes nothing: these are definitions.
use Rattle.std.specs.Prelude.{ℕ, ◌+◌, ◌-◌, ◌*◌, ◌%◌, ◌^◌, ℤ}
use Rattle.range.specs.Signed.{sumℤ}
use Rattle.rules.specs.Shape.{phases}
use Rattle.rules.specs.Pair.{minus}
use Rattle.rules.specs.Autocorrelation.{phase_power}

unfoldable pub phase_at : ℕ → (ℕ → ℕ) → ℕ → ℕ → ℕ → ℕ
phase_at h a r s i = (2 ^ (r - h) * a i + s * i) % phases r

unfoldable pub envelope_power : ℕ → ℕ → (ℕ → ℕ) → ℕ → ℕ → ℕ → ℤ
envelope_power h n a r s t =
    sumℤ n (λ i. sumℤ n (λ j. phase_power r (minus (phases r) (phase_at h a r s i) (phase_at h a r s j)) t))
