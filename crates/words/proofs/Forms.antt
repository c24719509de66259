-- The form as code computes it: rules' Word and Place. In order: the form by the rows of the generator; the partner
-- from the form, with one reduction; the words as lists, their lengths, symbols and bounds.
-- Not here: bounds of symbols (rules, SymbolLaws), what a word shows of its label (Readings).  Assumes nothing.
use Prim.Native.Nat.{ℕ, ◌+◌, ◌*◌, ◌%◌, ◌<◌}
use native.Mathlib.Nat.{mod-add-mod}
use native.Mathlib.Numerals.{add-one}
use native.Mathlib.Omega.{arith}
use mathlib.Core.Path.{◌≡◌}
use lib.ListN.{length, get_or}
use Rattle.range.specs.Below.{sum_below}
use Rattle.range.proofs.Lists.{length_list_below, list_below_at}
use Rattle.rules.specs.Shape.{phases, half_turn, carriers}
use Rattle.rules.specs.Place.{digit, generator_at}
use Rattle.rules.specs.Path.{head_of, path_at}
use Rattle.rules.specs.Label.{label_path, row_coefficient, label_of}
use Rattle.rules.specs.Word.{links, form_at, word_at, partner_at, word_of, partner_of}
use Rattle.rules.proofs.SymbolLaws.{word_at_lt, partner_at_lt}

pub form_at_rows : (h m l i : ℕ) → form_at h m l i ≡
    half_turn h * links (digit m i) (path_at m (label_path h m l))
    + sum_below (m + 1) (λ r. row_coefficient h m l r * generator_at m r i)
unfolding form_at sum_below row_coefficient generator_at
form_at_rows h m l i = rw add-one (omega arith)

pub partner_at_form : (h m l i : ℕ) → partner_at h m l i ≡
    (form_at h m l i + half_turn h * digit m i (head_of (path_at m (label_path h m l)))) % phases h
unfolding partner_at word_at
partner_at_form h m l i = mod-add-mod (form_at h m l i) (phases h) _

pub length_word_of : (h m g : ℕ) → length (word_of h m g) ≡ carriers m
unfolding word_of
length_word_of h m g = length_list_below (carriers m) _

pub word_of_at : (h m g i : ℕ) → i < carriers m → get_or (word_of h m g) i 0 ≡ word_at h m (label_of h m g) i
unfolding word_of
word_of_at h m g i l = list_below_at (carriers m) (word_at h m (label_of h m g)) i 0 l

pub word_of_lt : (h m g i : ℕ) → i < carriers m → get_or (word_of h m g) i 0 < phases h
word_of_lt h m g i l = rw (word_of_at h m g i l) (word_at_lt h m (label_of h m g) i)

pub length_partner_of : (h m g : ℕ) → length (partner_of h m g) ≡ carriers m
unfolding partner_of
length_partner_of h m g = length_list_below (carriers m) _

pub partner_of_at : (h m g i : ℕ) → i < carriers m → get_or (partner_of h m g) i 0 ≡ partner_at h m (label_of h m g) i
unfolding partner_of
partner_of_at h m g i l = list_below_at (carriers m) (partner_at h m (label_of h m g)) i 0 l

pub partner_of_lt : (h m g i : ℕ) → i < carriers m → get_or (partner_of h m g) i 0 < phases h
partner_of_lt h m g i l = rw (partner_of_at h m g i l) (partner_at_lt h m (label_of h m g) i)
