-- Soft values with no noise: rules' clean. In order: how many there are; how large they are; the correlation with a
-- word that agrees with the symbols, and with one that does not; so the message sent is the answer.
-- Not here: the correlation with any word, by its distance (Units); what one symbol hears (Clean).  Assumes nothing.
use Prim.Native.Nat.{ℕ, ◌+◌, ◌-◌, ◌*◌, ◌/◌, ◌%◌, ◌≤◌, ◌<◌, zero-le}
use native.Mathlib.Nat.{mul-zero, mul-pos, le_refl, le-div_iff_mul-le}
use native.Mathlib.Decide.{dec_lt}
use native.Mathlib.Omega.{arith}
use mathlib.Core.Path.{◌≡◌, sym, ◌∙◌, subst}
use mathlib.Core.Bool.{Bool, true, false, cond}
use mathlib.Core.List.{List}
use mathlib.Core.Logic.{◌≢◌}
use lib.Dec.{eqb}
use lib.IntN.{ℤ, pos, neg_ℤ, nat_abs, ◌+ℤ◌, ◌-ℤ◌, +ℤ_idr, pos-+ℤ-pos}
use lib.ListN.{length, get_or-eq_default}
use lib.Pow.{pow_pos, pow_mono}
use lib.Signed.{≤ℤ_refl}
use Rattle.range.specs.Signed.{entry}
use Rattle.range.proofs.Lists.{length_list_below, list_below_at}
use Rattle.range.proofs.Shifts.{shift_difference, shift_equal, shift_le}
use Rattle.range.proofs.Sizes.{nat_abs_neg}
use Rattle.rules.specs.Shape.{phases, half_turn, carriers, messages}
use Rattle.rules.specs.Label.{labels, label_of}
use Rattle.rules.specs.Word.{word_at, symbol_at}
use Rattle.rules.specs.Distance.{distance_to}
use Rattle.rules.specs.Soft.{soft_length, correlation, clean_at, clean}
use Rattle.rules.specs.Best.{AtMost}
use Rattle.rules.specs.Decoding.{Loud}
use Rattle.rules.proofs.SymbolLaws.{word_at_lt}
use Rattle.rules.proofs.DecodingLaws.{best_answer_alone}
use Rattle.signals.proofs.Metric.{distance_zero_of_agree}
use Rattle.signals.proofs.Units.{correlation_clean}

pub length_clean : (h m a : ℕ) (w : List ℕ) → length (clean h m a w) ≡ soft_length h m
unfolding clean
length_clean h m a w = length_list_below (soft_length h m) (clean_at h a w)

amplitude_size : (t u : Bool) (a : ℕ) → nat_abs (cond t (pos a) (cond u (neg_ℤ (pos a)) (pos 0))) ≤ a
amplitude_size true u a = le_refl a
amplitude_size false true a = rw (nat_abs_neg (pos a)) (le_refl a)
amplitude_size false false a = zero-le

clean_at_size : (h a : ℕ) (w : List ℕ) (j : ℕ) → nat_abs (clean_at h a w j) ≤ a
unfolding clean_at
clean_at_size h a w j =
    let x : ℕ = symbol_at w (j / half_turn h) in
    let r : ℕ = j % half_turn h in
    amplitude_size (eqb x r) (eqb x (r + half_turn h)) a

-- every value lies from -a to a
pub clean_size : (h m a : ℕ) (w : List ℕ) (j : ℕ) → nat_abs (entry (clean h m a w) j) ≤ a
unfolding clean
clean_size h m a w j = at (dec_lt j (soft_length h m))
  where
    at : Dec (j < soft_length h m) → nat_abs (entry (clean h m a w) j) ≤ a
    at (yes l) = rw (list_below_at (soft_length h m) (clean_at h a w) j (pos 0) l) (clean_at_size h a w j)
    at (no n) =
        let b : length (clean h m a w) ≤ j = omega (arith, length_clean h m a w) in
        rw (get_or-eq_default (clean h m a w) (pos 0) b) zero-le

-- what is left once something is taken away is no better than the whole, and not equal to it
less_worse : (n e : ℕ) → 1 ≤ e → AtMost (pos n -ℤ pos e) (pos n) × (pos n -ℤ pos e ≢ pos n)
less_worse n e l =
    let x : ℤ = pos n -ℤ pos e in
    let p : pos n ≡ pos e +ℤ x = shift_difference n e in
    let q : pos (e + n) ≡ pos e +ℤ pos n = sym (pos-+ℤ-pos e n) in
    let ne : x ≢ pos n = λ z. omega (arith, (shift_equal n (e + n) e x (pos n) p q).0 z) in
    (shift_le n (e + n) e x (pos n) p q (omega arith), ne)

-- a step of Lee's distance is two quarter turns for two phases, and one for four
quarters_least : (h : ℕ) → h ≤ 2 → 1 ≤ 2 / half_turn h
quarters_least h two =
    (le-div_iff_mul-le {k = half_turn h} {x = 1} {y = 2} (pow_pos (h - 1))).1
    (omega (arith, pow_mono {i = h - 1} {j = 1} (omega arith)))

module _ (h m a : ℕ) (w : List ℕ) (one : 1 ≤ h) (two : h ≤ 2)
    (inside : (i : ℕ) → i < carriers m → symbol_at w i < phases h) where
  correlation_of_agree : (l : ℕ) → ((i : ℕ) → i < carriers m → symbol_at w i ≡ word_at h m l i) →
      correlation h m (clean h m a w) l ≡ pos (carriers m * a)
  correlation_of_agree l agree =
      let c : ℕ = a * (2 / half_turn h) in
      let same : distance_to h m w l ≡ 0 =
      distance_zero_of_agree h (carriers m) (symbol_at w) (word_at h m l) inside
      (λ i b. subst (λ (x : ℕ). x < phases h) (agree i b) (inside i b)) agree in
      correlation_clean h m a w l one two inside
      ∙ rw (same, mul-zero c) (+ℤ_idr (pos (carriers m * a)))

  correlation_of_apart : (k : ℕ) → 1 ≤ a → 1 ≤ distance_to h m w k →
      AtMost (correlation h m (clean h m a w) k) (pos (carriers m * a))
      × (correlation h m (clean h m a w) k ≢ pos (carriers m * a))
  correlation_of_apart k some far =
      let d : ℕ = distance_to h m w k in
      rw (correlation_clean h m a w k one two inside)
      (less_worse (carriers m * a) (a * (2 / half_turn h) * d) (mul-pos (mul-pos some (quarters_least h two)) far))

-- N amplitudes: every other word differs from the symbols, and each step of its distance takes from them
pub loud_of_clean : (h m a : ℕ) (w : List ℕ) (g : ℕ) → 1 ≤ h → h ≤ 2 → 1 ≤ a → g < messages h m →
    let l = label_of h m g in ((i : ℕ) → i < carriers m → symbol_at w i ≡ word_at h m l i) →
    ((k : ℕ) → k < labels h m → k ≢ l → 1 ≤ distance_to h m w k) →
    Loud h m (clean h m a w) (record { message = g; value = pos (carriers m * a); tied = false })
loud_of_clean h m a w g one two some inside agree apart =
    let l : ℕ = label_of h m g in
    let c : ℕ → ℤ = correlation h m (clean h m a w) in
    let below : (i : ℕ) → i < carriers m → symbol_at w i < phases h =
    λ i b. rw (agree i b) (word_at_lt h m l i) in
    let whole : c l ≡ pos (carriers m * a) = correlation_of_agree h m a w one two below l agree in
    rw whole at (best_answer_alone h m AtMost c g inside (≤ℤ_refl (c l)).le
    (λ k b ne. rw whole (correlation_of_apart h m a w one two below k some (apart k b ne))))
