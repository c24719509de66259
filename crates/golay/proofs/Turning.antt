-- A map of places that makes the counts of two words agree: rules' Pair. It goes over the places that have another u
-- on, it undoes itself, and a place and its image cancel: each difference of the two words at the one place is a
-- difference half a turn on at the other.
-- Defines:  apart h a u i         symbol i minus symbol i + u of the word a
--           across h a u i        that difference, half a turn on
--           CancelAt h a b u i t  the places i and t cancel
--           Turning h n a b u τ   τ is such a map
--           hits h d e k          how many of the differences d and e are k, modulo 2^h
--           hits_at h a b u k i   the hits of k among the two words' differences at place i
-- In order: differences are phases; the counts as a sum over the places; half a turn on in a difference and in what it
-- is compared with; a place and its image; the counts.
-- Not here: the map for a word and its partner (Mates), and that it is such a map (LabelPairs).  Assumes nothing.
use Prim.Native.Nat.{ℕ, ◌+◌, ◌-◌, ◌%◌, ◌≤◌, ◌<◌}
use native.Mathlib.Nat.{add_comm}
use mathlib.Core.Path.{◌≡◌, sym, ◌∙◌, ap}
use mathlib.Core.Logic.{◌⊎◌, inl, inr}
use lib.Dec.{eqb}
use lib.Pow.{pow_pos}
use Rattle.range.specs.Below.{sum_below, count_below, one_if}
use Rattle.range.proofs.Sums.{sum_below_cong, sum_below_sum}
use Rattle.range.proofs.Involutions.{sum_below_involution}
use Rattle.rules.specs.Shape.{phases, half_turn}
use Rattle.rules.specs.Pair.{minus, phase_count, pair_count}
use Rattle.rules.proofs.Range.{phases_half}
use Rattle.rules.proofs.Differences.{minus_lt}
use Rattle.golay.proofs.Residues.{half_twice, half_across}

abbrev pub apart : ℕ → (ℕ → ℕ) → ℕ → ℕ → ℕ
apart h a u i = minus (phases h) (a i) (a (i + u))

abbrev pub across : ℕ → (ℕ → ℕ) → ℕ → ℕ → ℕ
across h a u i = (apart h a u i + half_turn h) % phases h

-- a place with itself, by its two differences, or with another, by those of each word
abbrev pub CancelAt : ℕ → (ℕ → ℕ) → (ℕ → ℕ) → ℕ → ℕ → ℕ → Type 0
CancelAt h a b u i t =
    ((t ≡ i) × (apart h b u i ≡ across h a u i))
    ⊎ ((apart h a u t ≡ across h a u i) × (apart h b u t ≡ across h b u i))

pub record Turning (h n : ℕ) (a b : ℕ → ℕ) (u : ℕ) (τ : ℕ → ℕ) : Type 0 where
  pub inside : (i : ℕ) → i < n - u → τ i < n - u
  pub back : (i : ℕ) → i < n - u → τ (τ i) ≡ i
  pub over : (i : ℕ) → i < n - u → CancelAt h a b u i (τ i)

abbrev pub hits : ℕ → ℕ → ℕ → ℕ → ℕ
hits h d e k = one_if (eqb d (k % phases h)) + one_if (eqb e (k % phases h))

pub apart_lt : (h : ℕ) (a : ℕ → ℕ) (u i : ℕ) → apart h a u i < phases h
apart_lt h a u i = minus_lt (phases h) (a i) (a (i + u)) (pow_pos h)

pub pair_count_sum : (h n : ℕ) (a b : ℕ → ℕ) (u k : ℕ) →
    pair_count h n a b u k ≡ sum_below (n - u) (λ i. hits h (apart h a u i) (apart h b u i) k)
unfolding pair_count phase_count count_below
pair_count_sum h n a b u k = sum_below_sum (n - u) _ _

module _ (h : ℕ) (one : 1 ≤ h) (d k : ℕ) (b : d < phases h) where
  -- a difference half a turn on is k where it is k and half a turn
  hit_across : eqb ((d + half_turn h) % phases h) (k % phases h) ≡ eqb d ((k + half_turn h) % phases h)
  hit_across = half_across (phases h) (half_turn h) (phases_half h one) d k b

  hit_across_both : eqb ((d + half_turn h) % phases h) ((k + half_turn h) % phases h) ≡ eqb d (k % phases h)
  hit_across_both =
      half_across (phases h) (half_turn h) (phases_half h one) d (k + half_turn h) b
      ∙ ap (eqb d) (half_twice (phases h) (half_turn h) (phases_half h one) k)

  hits_self : hits h d ((d + half_turn h) % phases h) k ≡ hits h d ((d + half_turn h) % phases h) (k + half_turn h)
  hits_self = rw (hit_across, hit_across_both) (add_comm (one_if (eqb d (k % phases h))) _)

module _ (h : ℕ) (a b : ℕ → ℕ) (u : ℕ) where
  -- the hits at place i
  abbrev hits_at : ℕ → ℕ → ℕ
  hits_at k i = hits h (apart h a u i) (apart h b u i) k

  hits_at_cancel : (k i t : ℕ) → 1 ≤ h → CancelAt h a b u i t → hits_at k t ≡ hits_at (k + half_turn h) i
  hits_at_cancel k i t one (inl e) = rw (e.0, e.1) (hits_self h one (apart h a u i) k (apart_lt h a u i))
  hits_at_cancel k i t one (inr e) =
      rw (
        e.0,
        e.1,
        hit_across h one (apart h a u i) k (apart_lt h a u i),
        hit_across h one (apart h b u i) k (apart_lt h b u i),
      )

module _ (h n : ℕ) (a b : ℕ → ℕ) (u : ℕ) (τ : ℕ → ℕ) (one : 1 ≤ h) (t : Turning h n a b u τ) where
  pub pair_count_half_of_turning : (k : ℕ) → pair_count h n a b u k ≡ pair_count h n a b u (k + half_turn h)
  pair_count_half_of_turning k =
      pair_count_sum h n a b u k
      ∙ sym (sum_below_involution (n - u) τ (hits_at h a b u k) t.inside t.back)
      ∙ sum_below_cong (n - u) (λ i. hits_at h a b u k (τ i)) (hits_at h a b u (k + half_turn h))
      (λ i l. hits_at_cancel h a b u k i (τ i) one (t.over i l))
      ∙ sym (pair_count_sum h n a b u (k + half_turn h))
