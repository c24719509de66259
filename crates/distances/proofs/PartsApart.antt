-- What the difference of two words weighs at least where their labels differ in one part: rules' Word and Label.
-- Defines:  apart_at ω h m l k i   the weight of the difference of the words of labels l and k at place i
--           apart ω h m l k        the sum of these over all places: the weight of the difference of the words
--           pair_links h m l a b   how often a and b are linked in the path of label l
-- In order: paths whose links of two digits differ, at four places and in sum; equal paths and different coefficients,
-- at two places and in sum; equal paths and coefficients and different constants, at one place and in sum.
-- Not here: gaps (Gaps), sums over flips (Averages), forms at flips (Flipped), the law (Apart).  Assumes nothing.
use Prim.Native.Nat.{ℕ, suc, ◌+◌, ◌*◌, ◌%◌, ◌≤◌, ◌<◌, zero-le, suc-le-suc}
use native.Mathlib.Nat.{le_trans}
use native.Mathlib.Omega.{arith}
use mathlib.Core.Path.{◌≡◌, refl, ◌∙◌, ap, ap₂}
use mathlib.Core.Logic.{◌≢◌}
use lib.Pow.{pow_pos}
use Rattle.range.specs.Below.{sum_below}
use Rattle.range.proofs.Bits.{bit_cases}
use Rattle.range.proofs.Sums.{sum_below_cong, sum_below_ge}
use Rattle.rules.specs.Shape.{phases, half_turn, carriers}
use Rattle.rules.specs.Place.{digit}
use Rattle.rules.specs.Path.{path_at}
use Rattle.rules.specs.Label.{label_path, coefficient, constant}
use Rattle.rules.specs.Word.{links, form_at, word_at}
use Rattle.places.proofs.Digits.{digit_lt}
use Rattle.places.proofs.Flips.{flip, flip_flip, digit_flip_at}
use Rattle.paths.proofs.LinkedPairs.{on_pair}
use Rattle.signals.proofs.Weights.{Weight, weigh}
use Rattle.words.proofs.Labels.{coefficient_lt, constant_lt}
use Rattle.words.proofs.Readings.{Good, linked, linear}
use Rattle.distances.proofs.Gaps.{gap, gap_shift, gap_half, weight_gap_sum, weight_step}
use Rattle.distances.proofs.Gaps.{Positive, weight_step_beside, weight_gap_one}
use Rattle.distances.proofs.Averages.{sum_below_ge_flip, sum_below_ge_flips}
use Rattle.distances.proofs.Flipped.{form_at_flip, form_at_flips}

abbrev apart_at : (ℕ → ℕ) → ℕ → ℕ → ℕ → ℕ → ℕ → ℕ
apart_at ω h m l k i = ω (gap (phases h) (form_at h m l i) (form_at h m k i))

abbrev pub apart : (ℕ → ℕ) → ℕ → ℕ → ℕ → ℕ → ℕ
apart ω h m l k = weigh ω (phases h) (carriers m) (word_at h m l) (word_at h m k)

apart_sum : (ω : ℕ → ℕ) (h m l k : ℕ) → apart ω h m l k ≡ sum_below (carriers m) (apart_at ω h m l k)
unfolding weigh word_at
apart_sum ω h m l k = refl

abbrev pub pair_links : ℕ → ℕ → ℕ → ℕ → ℕ → ℕ
pair_links h m l a b = links (on_pair a b) (path_at m (label_path h m l))

module _ (h m l k : ℕ) (ω : ℕ → ℕ) (weight : Weight (phases h) ω) where
  module _ (a b : ℕ) (la : 1 ≤ a) (lb : a < b) (lm : b ≤ m) (pos : 1 ≤ h) (p : Good m (path_at m (label_path h m l)))
      (r : Good m (path_at m (label_path h m k))) (n : pair_links h m l a b % 2 ≢ pair_links h m k a b % 2) where
    links_apart_at : (i : ℕ) → ω (half_turn h) ≤
        apart_at ω h m l k i + apart_at ω h m l k (flip m a i)
        + (apart_at ω h m l k (flip m b i) + apart_at ω h m l k (flip m a (flip m b i)))
    links_apart_at i =
        let f : ℕ → ℕ = form_at h m l in
        let g : ℕ → ℕ = form_at h m k in
        let j : ℕ = flip m a i in
        let s : ℕ = flip m b i in
        let t : ℕ = flip m a s in
        omega (
          arith,
          ap ω (gap_half h _ _ pos n),
          weight_step (phases h) (pow_pos h) ω weight (f i + f t) (g i + g t) (f j + f s) (g j + g s) _ _
              (form_at_flips h m l a b i pos (omega arith) lm (omega arith) p)
              (form_at_flips h m k a b i pos (omega arith) lm (omega arith) r),
          weight_gap_sum (phases h) (pow_pos h) ω weight (f i) (g i) (f t) (g t),
          weight_gap_sum (phases h) (pow_pos h) ω weight (f j) (g j) (f s) (g s),
        )

    pub apart_of_links : carriers m * ω (half_turn h) ≤ 4 * apart ω h m l k
    apart_of_links =
        rw apart_sum
        (sum_below_ge_flips m a b (ω (half_turn h)) (apart_at ω h m l k) la (omega arith) (omega arith) lm
        (λ i _. links_apart_at i))

  module _ (same : path_at m (label_path h m l) ≡ path_at m (label_path h m k))
      (positive : Positive (phases h) ω) where
    coefficient_apart_zero : (r i : ℕ) → 1 ≤ r → r ≤ m → coefficient h m l r ≢ coefficient h m k r → digit m i r ≡ 0 →
        1 ≤ apart_at ω h m l k i + apart_at ω h m l k (flip m r i)
    coefficient_apart_zero r i a b n z =
        le_trans
        (weight_gap_one (phases h) (pow_pos h) ω weight positive _ _ (coefficient_lt h m l r) (coefficient_lt h m k r)
        n)
        (weight_step_beside (phases h) (pow_pos h) ω weight _ _ _ _ _ _ _ _ (rw same at (form_at_flip h m l r i a b z))
        (form_at_flip h m k r i a b z))

    coefficient_apart_at : (r i : ℕ) → 1 ≤ r → r ≤ m → coefficient h m l r ≢ coefficient h m k r →
        1 ≤ apart_at ω h m l k i + apart_at ω h m l k (flip m r i)
    coefficient_apart_at r i a b n =
        bit_cases (digit m i r) (digit_lt m i r) (λ z. coefficient_apart_zero r i a b n z)
        (λ e. let z : digit m (flip m r i) r ≡ 0 = omega (arith, digit_flip_at m r i) in
        omega (arith, rw (flip_flip m r i) at (coefficient_apart_zero r (flip m r i) a b n z)))

    pub apart_of_coefficient : (r : ℕ) → 1 ≤ r → r ≤ m → coefficient h m l r ≢ coefficient h m k r →
        carriers m ≤ 2 * apart ω h m l k
    apart_of_coefficient r a b n =
        rw apart_sum
        (omega (arith, sum_below_ge_flip m r 1 (apart_at ω h m l k) a b (λ i _. coefficient_apart_at r i a b n)))

    module _ (equal : (r : ℕ) → 1 ≤ r → r ≤ m → coefficient h m l r ≡ coefficient h m k r)
        (n : constant h l ≢ constant h k) where
      linear_equal : (i : ℕ) → linear h m l i ≡ linear h m k i
      linear_equal i = sum_below_cong m _ _ (λ j b. rw (equal (suc j) (suc-le-suc zero-le) b))

      gap_constant : (i : ℕ) → gap (phases h) (form_at h m l i) (form_at h m k i) ≡
          gap (phases h) (constant h l) (constant h k)
      unfolding form_at
      gap_constant i =
          let s : ℕ = half_turn h * linked h m k i + linear h m k i in
          let e : form_at h m l i ≡ constant h l + s =
          omega (arith, linear_equal i, ap (λ p. half_turn h * links (digit m i) p) same) in
          let f : form_at h m k i ≡ constant h k + s = omega arith in
          ap₂ (gap (phases h)) e f ∙ gap_shift (phases h) (pow_pos h) (constant h l) (constant h k) s

      constant_apart_at : (i : ℕ) → 1 ≤ apart_at ω h m l k i
      constant_apart_at i =
          rw (gap_constant i)
          (weight_gap_one (phases h) (pow_pos h) ω weight positive _ _ (constant_lt h l) (constant_lt h k) n)

      pub apart_of_constant : carriers m ≤ apart ω h m l k
      apart_of_constant =
          rw apart_sum (omega (arith, sum_below_ge (carriers m) 1 (apart_at ω h m l k) (λ i _. constant_apart_at i)))
