-- The aperiodic autocorrelation of a word, in whole numbers: 001 (5) and Definition 1; 01 "The partner and the pair
-- check". Words are taken as functions of the place.
-- Let ξ be the phase of 2^h steps to a turn. C_a(u) is the sum over i of ξ to the power a_i - a_(i+u). Half a turn is
-- -1, and the first 2^(h-1) powers of ξ have no whole-number relation; so a sum of powers of ξ is a polynomial in x
-- modulo x^(2^(h-1)) + 1, told by one whole number for each of 1, x, .., x^(2^(h-1)-1): its coordinates.
-- Coordinates from 2^(h-1) on have no meaning. A shift of -u gives the conjugate of the autocorrelation at u, so that
-- shifts from 1 to N - 1 are all that is to be asked.
-- Defines:  times_phase h p         the coordinates of x times p: each goes one on, and the last comes back negated
--           phase_power h e         the coordinates of x^e, which begins with 1 and is taken times x e times
--           autocorrelation h n a u the coordinates of C_a(u), for the n symbols of word a
--           Cancel h m a b          C_a(u) + C_b(u) = 0 at each shift u from 1 to N - 1
-- Laws: crate golay; samples: proofs/Samples.antt.  Assumes nothing: these are definitions.
use Rattle.std.specs.Prelude.{ℕ, zero, suc, ◌+◌, ◌-◌, ◌≤◌, ◌<◌, ◌≡◌, ℤ, pos, neg_ℤ, ◌+ℤ◌}
use Rattle.range.specs.Signed.{sumℤ}
use Rattle.rules.specs.Shape.{phases, half_turn, carriers}
use Rattle.rules.specs.Pair.{minus}

unfoldable pub times_phase : ℕ → (ℕ → ℤ) → ℕ → ℤ
times_phase h p zero = neg_ℤ (p (half_turn h - 1))
times_phase h p (suc t) = p t

unfoldable pub phase_power : ℕ → ℕ → ℕ → ℤ
phase_power h zero zero = pos 1
phase_power h zero (suc t) = pos 0
phase_power h (suc e) t = times_phase h (phase_power h e) t

unfoldable pub autocorrelation : ℕ → ℕ → (ℕ → ℕ) → ℕ → ℕ → ℤ
autocorrelation h n a u t = sumℤ (n - u) (λ i. phase_power h (minus (phases h) (a i) (a (i + u))) t)

abbrev pub Cancel : ℕ → ℕ → (ℕ → ℕ) → (ℕ → ℕ) → Type 0
Cancel h m a b =
    (u : ℕ) → 1 ≤ u → u < carriers m → (t : ℕ) → t < half_turn h →
    autocorrelation h (carriers m) a u t +ℤ autocorrelation h (carriers m) b u t ≡ pos 0
