-- 01's table "When the receiver says no": a test for each number.
-- Defines:  bad_shape, bad_length, bad_message, octary       1, 2, 4, 6: whether they are given
--           bad_m, short_area                                1 and 2 for the transform: m alone, an area
--           bad_symbol, bad_value                            3, 7: the first bad place, if there is one
--           first_bad q w                                    the first place of w whose symbol is q or more
--           message_with                                     5: the message whose word the symbols are, if there is one
-- Assumes nothing: these are definitions.
use Rattle.std.specs.Prelude.{ℕ, Bool, not, List, eqb, leb, ltb, ℤ, length}
use Rattle.std.proofs.Math.Option.{Option}
use Rattle.range.specs.Below.{all_below, first_below}
use Rattle.range.specs.Signed.{entry}
use Rattle.rules.specs.Shape.{in_m, in_shape, phases, carriers, messages}
use Rattle.rules.specs.Label.{label_of}
use Rattle.rules.specs.Word.{word_at, symbol_at}
use Rattle.rules.specs.Spectrum.{accepted}

-- 1 shape: h or m is outside its range
abbrev pub bad_shape : ℕ → ℕ → Bool
bad_shape h m = not (in_shape h m)

-- for the transform, m alone
abbrev pub bad_m : ℕ → Bool
bad_m m = not (in_m m)

-- 2 length: not exactly the length named; an area shorter than N
abbrev pub bad_length : ℕ → ℕ → Bool
bad_length n named = not (eqb n named)

abbrev pub short_area : ℕ → ℕ → Bool
short_area n m = ltb n (carriers m)

-- 3 symbol: one is 2^h or more
abbrev pub first_bad : ℕ → List ℕ → Option ℕ
first_bad q w = first_below (length w) (λ i. leb q (symbol_at w i))

unfoldable pub bad_symbol : ℕ → List ℕ → Option ℕ
bad_symbol h w = first_bad (phases h) w

-- 4 message: the message number needs more than its bits
abbrev pub bad_message : ℕ → ℕ → ℕ → Bool
bad_message h m g = leb (messages h m) g

-- 5 no word: no message has this word
unfoldable pub message_with : ℕ → ℕ → List ℕ → Option ℕ
message_with h m w =
    first_below (messages h m) (λ g. all_below (carriers m) (λ i. eqb (word_at h m (label_of h m g) i) (symbol_at w i)))

-- 6 octary decode
abbrev pub octary : ℕ → Bool
octary h = eqb h 3

-- 7 value: one of the first N lies outside its range
unfoldable pub bad_value : ℕ → List ℤ → Option ℕ
bad_value m y = first_below (carriers m) (λ i. not (accepted (entry y i)))
