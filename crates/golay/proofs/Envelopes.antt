-- The equation in the proof of 001's Theorem 2: at every moment s / 2^r of the symbol period the envelope powers of the
-- two words of a Golay pair add up to 2 N: to 2 N at coordinate 0, and to 0 at the others.
-- Defines:  between r e i j          symbol i minus symbol j of a word e of 2^r phases
--           square r n e t           coordinate t of the sum of the powers of these differences, over i and j below n
--           square_count r n e k     how many of them are k, modulo 2^r
--           hits_between r e f k i j  how many of the two words' differences at i and j are k
-- In order: a square as two counts, and the counts of two words together; where the words are a pair, their counts half
-- a turn on, at each shift, backwards, and over the square, which is left with its diagonal; the two squares together,
-- which are the two autocorrelations at shift 0; the equation.
-- Not here: that the phases at a moment are a pair (Moments).  Assumes nothing.
use Prim.Native.Nat.{ℕ, ◌+◌, ◌-◌, ◌*◌, ◌%◌, ◌≤◌, ◌<◌}
use native.Mathlib.Nat.{add-zero, sub-zero, add_comm}
use native.Mathlib.Omega.{arith}
use mathlib.Core.Path.{◌≡◌, sym, ◌∙◌, ap}
use lib.Dec.{eqb}
use lib.IntN.{ℤ, pos, ◌+ℤ◌, ◌-ℤ◌}
use lib.Pow.{pow_pos}
use Rattle.range.specs.Below.{sum_below, one_if}
use Rattle.range.specs.Signed.{sumℤ}
use Rattle.range.proofs.Sums.{sum_below_cong, sum_below_sum}
use Rattle.range.proofs.SumsSigned.{sumℤ_cong}
use Rattle.range.proofs.Shifts.{differences_add, sumℤ_difference, differences_equal}
use Rattle.range.proofs.Squares.{squares_differ}
use Rattle.rules.specs.Shape.{phases, half_turn, carriers}
use Rattle.rules.specs.Pair.{minus, pair_count, GolayPair}
use Rattle.rules.specs.Autocorrelation.{phase_power}
use Rattle.rules.specs.Envelope.{phase_at, envelope_power}
use Rattle.rules.proofs.Range.{phases_half}
use Rattle.rules.proofs.Differences.{minus_lt, minus_back}
use Rattle.golay.proofs.Powers.{sumℤ_phase_power}
use Rattle.golay.proofs.Autocorrelations.{autocorrelations_pair_count, autocorrelation_whole}
use Rattle.golay.proofs.Turning.{apart, hits, pair_count_sum}
use Rattle.golay.proofs.HalfMaps.{hits_mapped, keeps_half_round}
use Rattle.golay.proofs.Moments.{phase_at_lt, golay_pair_moment}

abbrev between : ℕ → (ℕ → ℕ) → ℕ → ℕ → ℕ
between r e i j = minus (phases r) (e i) (e j)

abbrev square : ℕ → ℕ → (ℕ → ℕ) → ℕ → ℤ
square r n e t = sumℤ n (λ i. sumℤ n (λ j. phase_power r (between r e i j) t))

abbrev square_count : ℕ → ℕ → (ℕ → ℕ) → ℕ → ℕ
square_count r n e k = sum_below n (λ i. sum_below n (λ j. one_if (eqb (between r e i j) (k % phases r))))

square_counts : (r n : ℕ) (e : ℕ → ℕ) (t : ℕ) → 1 ≤ r → t < half_turn r →
    square r n e t ≡ pos (square_count r n e t) -ℤ pos (square_count r n e (t + half_turn r))
square_counts r n e t one l =
    sumℤ_cong n _ _ (λ i _.
    sumℤ_phase_power r n (between r e i) t one (λ j. minus_lt (phases r) (e i) (e j) (pow_pos r)) l)
    ∙ sumℤ_difference n _ _

abbrev hits_between : ℕ → (ℕ → ℕ) → (ℕ → ℕ) → ℕ → ℕ → ℕ → ℕ
hits_between r e f k i j = hits r (between r e i j) (between r f i j) k

square_count_sum : (r n : ℕ) (e f : ℕ → ℕ) (k : ℕ) →
    square_count r n e k + square_count r n f k ≡ sum_below n (λ i. sum_below n (λ j. hits_between r e f k i j))
square_count_sum r n e f k = sum_below_sum n _ _ ∙ sum_below_cong n _ _ (λ i _. sum_below_sum n _ _)

-- shift 0 is the diagonal
pair_count_diagonal : (r n : ℕ) (e f : ℕ → ℕ) (k : ℕ) →
    pair_count r n e f 0 k ≡ sum_below n (λ i. hits_between r e f k i i)
pair_count_diagonal r n e f k = pair_count_sum r n e f 0 k ∙ simp (sub-zero, add-zero)

module _ (r m : ℕ) (e f : ℕ → ℕ) (one : 1 ≤ r) (ine : (i : ℕ) → i < carriers m → e i < phases r)
    (inf : (i : ℕ) → i < carriers m → f i < phases r) (g : GolayPair r m e f) (k : ℕ) (l : k < phases r) where
  hits_on : (u : ℕ) → 1 ≤ u → u < carriers m →
      sum_below (carriers m - u) (λ i. hits_between r e f k i (i + u))
      ≡ sum_below (carriers m - u) (λ i. hits_between r e f (k + half_turn r) i (i + u))
  hits_on u p q =
      sym (pair_count_sum r (carriers m) e f u k) ∙ g u p q k l
      ∙ pair_count_sum r (carriers m) e f u (k + half_turn r)

  -- the later symbol less the earlier one is what is left of a turn
  hits_between_back : (u i j : ℕ) → i < carriers m - u →
      hits_between r e f j (i + u) i
      ≡ hits r ((phases r - apart r e u i) % phases r) ((phases r - apart r f u i) % phases r) j
  hits_between_back u i j b = rw (
    minus_back (phases r) (e i) (e (i + u)) (ine i (omega arith)) (ine (i + u) (omega arith)),
    minus_back (phases r) (f i) (f (i + u)) (inf i (omega arith)) (inf (i + u) (omega arith)),
  )

  hits_back : (u : ℕ) → 1 ≤ u → u < carriers m →
      sum_below (carriers m - u) (λ i. hits_between r e f k (i + u) i)
      ≡ sum_below (carriers m - u) (λ i. hits_between r e f (k + half_turn r) (i + u) i)
  hits_back u p q =
      sum_below_cong (carriers m - u) _ _ (λ i b. hits_between_back u i k b)
      ∙ hits_mapped r (carriers m) e f u (g u p q) r (λ d. (phases r - d) % phases r) k one one (keeps_half_round r one)
      ∙ sym (sum_below_cong (carriers m - u) _ _ (λ i b. hits_between_back u i (k + half_turn r) b))

  square_counts_half :
      square_count r (carriers m) e k + square_count r (carriers m) f k
      + pair_count r (carriers m) e f 0 (k + half_turn r)
      ≡ pair_count r (carriers m) e f 0 k
      + (square_count r (carriers m) e (k + half_turn r) + square_count r (carriers m) f (k + half_turn r))
  square_counts_half =
      rw (
        square_count_sum r (carriers m) e f k,
        square_count_sum r (carriers m) e f (k + half_turn r),
        pair_count_diagonal r (carriers m) e f k,
        pair_count_diagonal r (carriers m) e f (k + half_turn r),
      )
      (squares_differ (carriers m) (hits_between r e f k) (hits_between r e f (k + half_turn r)) hits_on hits_back
      ∙ add_comm _ _)

squares_together : (r m : ℕ) (e f : ℕ → ℕ) (t : ℕ) → 1 ≤ r → ((i : ℕ) → i < carriers m → e i < phases r) →
    ((i : ℕ) → i < carriers m → f i < phases r) → GolayPair r m e f → t < half_turn r →
    square r (carriers m) e t +ℤ square r (carriers m) f t ≡ pos (2 * carriers m * one_if (eqb t 0))
squares_together r m e f t one ine inf g l =
    let c : (ℕ → ℕ) → ℕ → ℕ = square_count r (carriers m) in
    rw (square_counts r (carriers m) e t one l, square_counts r (carriers m) f t one l)
    (differences_add (c e t) (c e (t + half_turn r)) (c f t) (c f (t + half_turn r))
    ∙ differences_equal _ _ _ _ (square_counts_half r m e f one ine inf g t (omega (arith, phases_half r one)))
    ∙ sym (autocorrelations_pair_count r (carriers m) e f 0 one t l)
    ∙ rw (autocorrelation_whole r (carriers m) e t ine, autocorrelation_whole r (carriers m) f t inf)
    (ap pos (omega arith)))

pub envelope_power_together : (h m : ℕ) (a b : ℕ → ℕ) (r s t : ℕ) → 1 ≤ h → h ≤ r →
    ((i : ℕ) → i < carriers m → a i < phases h) → ((i : ℕ) → i < carriers m → b i < phases h) →
    GolayPair h m a b → t < half_turn r →
    envelope_power h (carriers m) a r s t +ℤ envelope_power h (carriers m) b r s t
    ≡ pos (2 * carriers m * one_if (eqb t 0))
unfolding envelope_power
envelope_power_together h m a b r s t one le ina inb g l =
    squares_together r m (phase_at h a r s) (phase_at h b r s) t (omega arith) (λ i _. phase_at_lt h a r s i)
    (λ i _. phase_at_lt h b r s i) (golay_pair_moment h m a b r s one le ina inb g) l
