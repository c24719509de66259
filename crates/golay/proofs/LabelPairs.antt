-- 001's Theorem 3: the word and the partner of a label are a Golay pair. In order: the partners' difference where the
-- digits at the path's first step differ; a place and its mate cancel, where those digits differ and where they agree;
-- the mates are a map that makes the counts agree; the theorem for a label with a path, and for every label.
-- Not here: the counts over any such map (Turning), the mates (Mates), words at mates (Balance).  Assumes nothing.
use Prim.Native.Nat.{ℕ, ◌+◌, ◌-◌, ◌≤◌, ◌<◌}
use native.Mathlib.Decide.{ℕ_discrete}
use native.Mathlib.Nat.{not-suc-le-zero}
use native.Mathlib.Omega.{arith}
use mathlib.Core.Path.{◌≡◌, refl}
use mathlib.Core.Logic.{◌≢◌, inl, inr}
use mathlib.Core.List.{List, [], ◌∷◌}
use lib.Dec.{T}
use lib.Pow.{pow_pos}
use Rattle.rules.specs.Shape.{in_m, phases, half_turn, carriers}
use Rattle.rules.specs.Place.{digit}
use Rattle.rules.specs.Path.{IsPath, head_of, path_at}
use Rattle.rules.specs.Label.{labels, label_path}
use Rattle.rules.specs.Word.{form_at, word_at, partner_at}
use Rattle.rules.specs.Pair.{GolayPair}
use Rattle.rules.proofs.Range.{phases_half}
use Rattle.places.proofs.Digits.{digit_lt}
use Rattle.places.proofs.Flips.{flip}
use Rattle.words.proofs.Forms.{partner_at_form}
use Rattle.words.proofs.Readings.{Good}
use Rattle.words.proofs.Used.{is_path_good, label_path_is_path}
use Rattle.golay.proofs.Residues.{minus_half_once}
use Rattle.golay.proofs.Turning.{Turning, CancelAt, apart, across, pair_count_half_of_turning}
use Rattle.golay.proofs.Mates.{mate, pivot, OddAround, first_le, pivot_in, pivot_same, pivot_odd, flip_on}
use Rattle.golay.proofs.Mates.{mate_self, mate_flip, mate_fits, mate_mate}
use Rattle.golay.proofs.Balance.{word_turned, partner_turned}

-- half a turn more at one of the two places
partner_across : (h m l u i : ℕ) → 1 ≤ h →
    digit m i (head_of (path_at m (label_path h m l))) ≢ digit m (i + u) (head_of (path_at m (label_path h m l))) →
    apart h (partner_at h m l) u i ≡ across h (word_at h m l) u i
unfolding word_at
partner_across h m l u i one n =
    let f : ℕ = head_of (path_at m (label_path h m l)) in
    rw (partner_at_form h m l i, partner_at_form h m l (i + u))
    (minus_half_once (phases h) (half_turn h) (form_at h m l i) (form_at h m l (i + u)) (digit m i f)
    (digit m (i + u) f)
    (pow_pos h) (phases_half h one) (omega (arith, digit_lt m i f, digit_lt m (i + u) f)))

module _ (h m l f : ℕ) (p : List ℕ) (one : 1 ≤ h) (is : path_at m (label_path h m l) ≡ f ∷ p) (path : IsPath m (f ∷ p))
    (u i : ℕ) (pos : 1 ≤ u) (fits : i < carriers m - u) where
  cancel_differ : digit m i f ≢ digit m (i + u) f → CancelAt h (word_at h m l) (partner_at h m l) u i i
  cancel_differ n = inl (refl, partner_across h m l u i one (rw is n))

  cancel_agree : digit m i f ≡ digit m (i + u) f →
      CancelAt h (word_at h m l) (partner_at h m l) u i (flip m (pivot m f p u i) i)
  cancel_agree s =
      let le : pivot m f p u i ≤ m = (pivot_in m f p path u i).1 in
      let same : digit m i (pivot m f p u i) ≡ digit m (i + u) (pivot m f p u i) = pivot_same m f p u i s in
      let good : Good m (path_at m (label_path h m l)) = rw is (is_path_good m (f ∷ p) path) in
      let odd : OddAround m (pivot m f p u i) i (i + u) (path_at m (label_path h m l)) =
      rw is (pivot_odd m f p path u i s pos (omega arith)) in
      inr (rw (← (flip_on m f p u i s)) (
        word_turned h m l (pivot m f p u i) i (i + u) one le same good odd,
        partner_turned h m l (pivot m f p u i) i (i + u) one le same good odd (rw is (first_le m f p path)),
      ))

  cancel_mate : CancelAt h (word_at h m l) (partner_at h m l) u i (mate m (f ∷ p) u i)
  cancel_mate = elim (ℕ_discrete (digit m i f) (digit m (i + u) f)) [
    | yes s ↦ rw (mate_flip m f p u i s) (cancel_agree s)
    | no n ↦ rw (mate_self m f p u i n) (cancel_differ n)
  ]

module _ (h m l f : ℕ) (p : List ℕ) (one : 1 ≤ h) (is : path_at m (label_path h m l) ≡ f ∷ p)
    (path : IsPath m (f ∷ p)) where
  mates_turning : (u : ℕ) → 1 ≤ u → Turning h (carriers m) (word_at h m l) (partner_at h m l) u (mate m (f ∷ p) u)
  mates_turning u pos = record {
    inside = mate_fits m f p path u;
    back = λ i _. mate_mate m f p path u i;
    over = λ i fits. cancel_mate h m l f p one is path u i pos fits;
  }

  golay_pair_of_first : GolayPair h m (word_at h m l) (partner_at h m l)
  golay_pair_of_first u pos _ k _ =
      pair_count_half_of_turning h (carriers m) (word_at h m l) (partner_at h m l) u (mate m (f ∷ p) u) one
      (mates_turning u pos) k

golay_pair_of_path : (h m l : ℕ) → 1 ≤ h → IsPath m (path_at m (label_path h m l)) →
    GolayPair h m (word_at h m l) (partner_at h m l)
golay_pair_of_path h m l one path = at (path_at m (label_path h m l)) refl path
  where
    at : (p : List ℕ) → path_at m (label_path h m l) ≡ p → IsPath m p → GolayPair h m (word_at h m l) (partner_at h m l)
    at [] e r = absurd (not-suc-le-zero r.ends)
    at (f ∷ p) e r = golay_pair_of_first h m l f p one e r

-- THE LAW of pairs: 001's Theorem 3
pub golay_pair_word_partner : (h m l : ℕ) → 1 ≤ h → T (in_m m) → l < labels h m →
    GolayPair h m (word_at h m l) (partner_at h m l)
golay_pair_word_partner h m l one range used = golay_pair_of_path h m l one (label_path_is_path h m l range used)
