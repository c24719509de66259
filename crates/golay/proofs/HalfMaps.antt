-- Maps of phases that take half a turn to half a turn: where the counts of two words agree half a turn on, so do the
-- counts of what such a map makes of their differences.
-- Defines:  KeepsHalf h r φ    φ takes the 2^h phases into the 2^r phases, and half a turn on to half a turn on
-- In order: half a turn on undoes itself; half a turn on under a map; any function of the differences, summed half a
-- turn on; the counts of what a map makes of them; the map that turns each phase round.
-- Not here: the map of a moment (Moments).  Assumes nothing.
use Prim.Native.Nat.{ℕ, ◌+◌, ◌-◌, ◌*◌, ◌%◌, ◌≤◌, ◌<◌}
use native.Mathlib.Nat.{mod-lt, mod-eq_of_lt, mod-add-mod, add-mod-mod, add-mod_right}
use native.Mathlib.Omega.{arith}
use mathlib.Core.Path.{◌≡◌, sym, ◌∙◌, ap}
use lib.Dec.{eqb}
use lib.Pow.{pow_pos}
use Rattle.range.specs.Below.{sum_below, one_if}
use Rattle.range.proofs.Remainders.{mod_cancel}
use Rattle.range.proofs.Sums.{sum_below_cong, sum_below_sum}
use Rattle.range.proofs.Involutions.{taken, sums_involution}
use Rattle.rules.specs.Shape.{phases, half_turn}
use Rattle.rules.specs.Pair.{phase_count, pair_count}
use Rattle.rules.proofs.Range.{phases_half}
use Rattle.golay.proofs.Residues.{half_twice, half_across}
use Rattle.golay.proofs.Turning.{apart, hits, apart_lt}

pub record KeepsHalf (h r : ℕ) (φ : ℕ → ℕ) : Type 0 where
  pub inside : (k : ℕ) → φ k < phases r
  pub half : (k : ℕ) → k < phases h → φ ((k + half_turn h) % phases h) ≡ (φ k + half_turn r) % phases r

-- half a turn on, twice
half_back : (h k : ℕ) → 1 ≤ h → k < phases h → ((k + half_turn h) % phases h + half_turn h) % phases h ≡ k
half_back h k one b =
    mod-add-mod (k + half_turn h) (phases h) (half_turn h)
    ∙ half_twice (phases h) (half_turn h) (phases_half h one) k ∙ mod-eq_of_lt b

-- half a turn on in a difference, and in the phase that the map's value is compared with
eqb_mapped : (h r : ℕ) (φ : ℕ → ℕ) (d k : ℕ) → 1 ≤ r → KeepsHalf h r φ → d < phases h →
    eqb (φ ((d + half_turn h) % phases h)) (k % phases r) ≡ eqb (φ d) ((k + half_turn r) % phases r)
eqb_mapped h r φ d k one keeps b =
    rw (keeps.half d b)
    (half_across (phases r) (half_turn r) (phases_half r one) (φ d) k (keeps.inside d))

module _ (h n : ℕ) (a b : ℕ → ℕ) (u : ℕ)
    (agree : (k : ℕ) → k < phases h → pair_count h n a b u k ≡ pair_count h n a b u (k + half_turn h)) where
  taken_half : (k : ℕ) → k < phases h →
      taken (n - u) (apart h a u) (apart h b u) k
      ≡ taken (n - u) (apart h a u) (apart h b u) ((k + half_turn h) % phases h)
  unfolding pair_count phase_count
  taken_half k l = ap (taken (n - u) (apart h a u) (apart h b u)) (sym (mod-eq_of_lt l)) ∙ agree k l

  -- any function of the differences has the same sum half a turn on
  sums_half : (f : ℕ → ℕ) → 1 ≤ h →
      sum_below (n - u) (λ i. f (apart h a u i)) + sum_below (n - u) (λ i. f (apart h b u i))
      ≡ sum_below (n - u) (λ i. f ((apart h a u i + half_turn h) % phases h))
      + sum_below (n - u) (λ i. f ((apart h b u i + half_turn h) % phases h))
  sums_half f one =
      sums_involution (n - u) (phases h) (apart h a u) (apart h b u)
      (λ i _. apart_lt h a u i) (λ i _. apart_lt h b u i)
      (λ k. (k + half_turn h) % phases h) f (λ k _. mod-lt (k + half_turn h) (pow_pos h))
      (λ k l. half_back h k one l) taken_half

  pub hits_mapped : (r : ℕ) (φ : ℕ → ℕ) (k : ℕ) → 1 ≤ h → 1 ≤ r → KeepsHalf h r φ →
      sum_below (n - u) (λ i. hits r (φ (apart h a u i)) (φ (apart h b u i)) k)
      ≡ sum_below (n - u) (λ i. hits r (φ (apart h a u i)) (φ (apart h b u i)) (k + half_turn r))
  hits_mapped r φ k one some keeps =
      let f : ℕ → ℕ = λ d. one_if (eqb (φ d) (k % phases r)) in
      sym (sum_below_sum (n - u) (λ i. f (apart h a u i)) (λ i. f (apart h b u i)))
      ∙ sums_half f one
      ∙ sum_below_sum (n - u) _ _
      ∙ sum_below_cong (n - u) _ _ (λ i _. rw (
        eqb_mapped h r φ (apart h a u i) k some keeps (apart_lt h a u i),
        eqb_mapped h r φ (apart h b u i) k some keeps (apart_lt h b u i),
      ))

-- what is left of a turn, where half a turn is added
round_half : (q s k : ℕ) → q ≡ 2 * s → k < q → (q - (k + s) % q) % q ≡ ((q - k) % q + s) % q
round_half q s k half b =
    let p : 0 < q = omega arith in
    let y : ℕ = (k + s) % q in
    let e : q - y + y ≡ q = omega (arith, mod-lt (k + s) p) in
    let f : q - k + s + (k + s) ≡ q + q = omega arith in
    mod_cancel q (q - y) (q - k + s) (k + s) p
    (sym (add-mod-mod (q - y) (k + s) q) ∙ rw (e, f) (sym (add-mod_right q q)))
    ∙ sym (mod-add-mod (q - k) q s)

pub keeps_half_round : (r : ℕ) → 1 ≤ r → KeepsHalf r r (λ k. (phases r - k) % phases r)
keeps_half_round r one = record {
  inside = λ k. mod-lt (phases r - k) (pow_pos r);
  half = λ k b. round_half (phases r) (half_turn r) k (phases_half r one) b;
}
