-- What the counts of the pair check say of autocorrelations: the two words of a Golay pair are those whose
-- autocorrelations cancel.
-- In order: a difference that is 0; an autocorrelation as two counts, and the two of a pair together; they cancel where
-- the counts agree half a turn on, at one coordinate, at one shift and at all; shift 0.
-- Not here: the powers that are summed (Powers).  Assumes nothing.
use Prim.Native.Nat.{ℕ, ◌+◌, ◌-◌, ◌*◌, ◌≤◌, ◌<◌}
use native.Mathlib.Nat.{add-mod_right, add-zero, sub-zero}
use native.Mathlib.Decide.{dec_lt}
use native.Mathlib.Omega.{arith}
use mathlib.Core.Path.{◌≡◌, sym, ◌∙◌, ap}
use mathlib.Core.Logic.{◌↔◌}
use lib.Dec.{eqb}
use lib.IntN.{pos, nat_abs, ◌+ℤ◌, ◌-ℤ◌, +ℤ_invr, -ℤ-+ℤ_cancel}
use lib.Pow.{pow_pos}
use Rattle.range.specs.Below.{count_below, one_if}
use Rattle.range.proofs.SumsSigned.{sumℤ_cong}
use Rattle.range.proofs.Shifts.{differences_add, sumℤ_const}
use Rattle.rules.specs.Shape.{phases, half_turn, carriers}
use Rattle.rules.specs.Pair.{minus, phase_count, pair_count, GolayPair}
use Rattle.rules.specs.Autocorrelation.{phase_power, autocorrelation, Cancel}
use Rattle.rules.proofs.Range.{phases_half}
use Rattle.rules.proofs.Differences.{minus_lt, minus_self}
use Rattle.golay.proofs.Powers.{phase_power_zero, sumℤ_phase_power}

difference_zero : (p q : ℕ) → (pos p -ℤ pos q ≡ pos 0) ↔ (p ≡ q)
difference_zero p q = (
  λ e. omega (arith, ap nat_abs (sym (-ℤ-+ℤ_cancel (pos p) (pos q)) ∙ ap (λ z. z +ℤ pos q) e)),
  λ e. rw e (+ℤ_invr (pos q)),
)

autocorrelation_counts : (h n : ℕ) (a : ℕ → ℕ) (u t : ℕ) → 1 ≤ h → t < half_turn h →
    autocorrelation h n a u t ≡ pos (phase_count h n a u t) -ℤ pos (phase_count h n a u (t + half_turn h))
unfolding autocorrelation phase_count count_below
autocorrelation_counts h n a u t one b =
    sumℤ_phase_power h (n - u) (λ i. minus (phases h) (a i) (a (i + u))) t one
    (λ i. minus_lt (phases h) (a i) (a (i + u)) (pow_pos h)) b

-- counts are for phases modulo 2^h
pair_count_turn : (h n : ℕ) (a b : ℕ → ℕ) (u k : ℕ) → pair_count h n a b u (k + phases h) ≡ pair_count h n a b u k
unfolding pair_count phase_count
pair_count_turn h n a b u k = rw (add-mod_right k (phases h))

module _ (h n : ℕ) (a b : ℕ → ℕ) (u : ℕ) (one : 1 ≤ h) where
  pub autocorrelations_pair_count : (t : ℕ) → t < half_turn h →
      autocorrelation h n a u t +ℤ autocorrelation h n b u t ≡
      pos (pair_count h n a b u t) -ℤ pos (pair_count h n a b u (t + half_turn h))
  unfolding pair_count
  autocorrelations_pair_count t l =
      rw (autocorrelation_counts h n a u t one l, autocorrelation_counts h n b u t one l)
      (differences_add (phase_count h n a u t) (phase_count h n a u (t + half_turn h)) (phase_count h n b u t)
      (phase_count h n b u (t + half_turn h)))

  cancel_iff_counts_at : (t : ℕ) → t < half_turn h →
      (autocorrelation h n a u t +ℤ autocorrelation h n b u t ≡ pos 0) ↔
      (pair_count h n a b u t ≡ pair_count h n a b u (t + half_turn h))
  cancel_iff_counts_at t l =
      rw (autocorrelations_pair_count t l)
      (difference_zero (pair_count h n a b u t) (pair_count h n a b u (t + half_turn h)))

  -- from half a turn on the same counts are compared, the other way round
  counts_of_half : ((t : ℕ) → t < half_turn h → pair_count h n a b u t ≡ pair_count h n a b u (t + half_turn h)) →
      (k : ℕ) → k < phases h → pair_count h n a b u k ≡ pair_count h n a b u (k + half_turn h)
  counts_of_half e k l = at (dec_lt k (half_turn h))
    where
      at : Dec (k < half_turn h) → pair_count h n a b u k ≡ pair_count h n a b u (k + half_turn h)
      at (yes s) = e k s
      at (no s) =
          let t : ℕ = k - half_turn h in
          let p : t + half_turn h ≡ k = omega arith in
          let q : t + phases h ≡ k + half_turn h = omega (arith, phases_half h one) in
          cc (e t (omega (arith, phases_half h one)), pair_count_turn h n a b u t)

  -- at one shift
  pub cancel_iff_counts :
      ((t : ℕ) → t < half_turn h → autocorrelation h n a u t +ℤ autocorrelation h n b u t ≡ pos 0) ↔
      ((k : ℕ) → k < phases h → pair_count h n a b u k ≡ pair_count h n a b u (k + half_turn h))
  cancel_iff_counts = (
    λ e. counts_of_half (λ t l. (cancel_iff_counts_at t l).0 (e t l)),
    λ e t l. (cancel_iff_counts_at t l).1 (e t (omega (arith, phases_half h one))),
  )

pub golay_pair_iff_cancel : (h m : ℕ) (a b : ℕ → ℕ) → 1 ≤ h → GolayPair h m a b ↔ Cancel h m a b
golay_pair_iff_cancel h m a b one = (
  λ g u p q. (cancel_iff_counts h (carriers m) a b u one).1 (g u p q),
  λ c u p q. (cancel_iff_counts h (carriers m) a b u one).0 (c u p q),
)

-- at shift 0 it is n: n at coordinate 0, and 0 at the others
pub autocorrelation_whole : (h n : ℕ) (a : ℕ → ℕ) (t : ℕ) → ((i : ℕ) → i < n → a i < phases h) →
    autocorrelation h n a 0 t ≡ pos (n * one_if (eqb t 0))
unfolding autocorrelation
autocorrelation_whole h n a t inside =
    rw (sub-zero n)
    (sumℤ_cong n (λ i. phase_power h (minus (phases h) (a i) (a (i + 0))) t) (λ _. pos (one_if (eqb t 0)))
    (λ i b. rw (add-zero i, minus_self (phases h) (a i) (inside i b)) (phase_power_zero h t))
    ∙ sumℤ_const n (one_if (eqb t 0)))
