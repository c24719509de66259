-- Words and partners at four places: two that agree in digit a, and both with it turned over, where an odd sum stands
-- around a in the path. The difference of the two, with a turned over, is half a turn on. In order: the forms of the
-- four places; the differences of the words, and of the partners.
-- Not here: four forms in general (words' FourForms), a digit around which an odd sum stands (Mates).  Assumes nothing.
use Prim.Native.Nat.{ℕ, ◌+◌, ◌%◌, ◌≤◌}
use native.Mathlib.Nat.{mul-one}
use mathlib.Core.Path.{◌≡◌}
use lib.Pow.{pow_pos}
use Rattle.rules.specs.Shape.{phases, half_turn}
use Rattle.rules.specs.Place.{digit}
use Rattle.rules.specs.Path.{head_of, path_at}
use Rattle.rules.specs.Label.{label_path}
use Rattle.rules.specs.Word.{form_at, word_at, partner_at}
use Rattle.rules.specs.Pair.{minus}
use Rattle.places.proofs.Flips.{flip, digit_flip_balance}
use Rattle.words.proofs.Forms.{partner_at_form}
use Rattle.words.proofs.Readings.{Good}
use Rattle.words.proofs.FourForms.{form_at_flip_balance}
use Rattle.golay.proofs.Residues.{minus_of_sums, sums_moved}
use Rattle.golay.proofs.Mates.{OddAround}

module _ (h m l a i j : ℕ) (one : 1 ≤ h) (la : a ≤ m) (s : digit m i a ≡ digit m j a)
    (good : Good m (path_at m (label_path h m l))) (odd : OddAround m a i j (path_at m (label_path h m l))) where
  forms_balance : (form_at h m l i + form_at h m l (flip m a j) + half_turn h) % phases h ≡
      (form_at h m l (flip m a i) + form_at h m l j) % phases h
  forms_balance = rw (← (mul-one (half_turn h))) (form_at_flip_balance h m l a i j 1 one la good s odd)

  pub word_turned :
      minus (phases h) (word_at h m l (flip m a i)) (word_at h m l (flip m a j))
      ≡ (minus (phases h) (word_at h m l i) (word_at h m l j) + half_turn h) % phases h
  unfolding word_at
  word_turned =
      minus_of_sums (phases h) (half_turn h) (form_at h m l i) (form_at h m l (flip m a i)) (form_at h m l j)
      (form_at h m l (flip m a j)) (pow_pos h) forms_balance

  pub partner_turned : head_of (path_at m (label_path h m l)) ≤ m →
      minus (phases h) (partner_at h m l (flip m a i)) (partner_at h m l (flip m a j))
      ≡ (minus (phases h) (partner_at h m l i) (partner_at h m l j) + half_turn h) % phases h
  partner_turned lf =
      let balance = digit_flip_balance m a i j (head_of (path_at m (label_path h m l))) la lf s in
      rw (
        partner_at_form h m l i,
        partner_at_form h m l j,
        partner_at_form h m l (flip m a i),
        partner_at_form h m l (flip m a j),
      )
      (minus_of_sums (phases h) (half_turn h) _ _ _ _ (pow_pos h)
      (sums_moved (phases h) (half_turn h) _ _ _ _ _ _ _ _ forms_balance balance))
