-- Soft values and the correlation with a word: 01 "What the receiver hears".
-- Octary soft decoding is refused 6 before any of these is asked: heard and correlation say for every h but 1 what they
-- say for h = 2, and clean is meant for h = 1 and 2.
-- Defines:  soft_length h m        N values for h = 1, 2N for h = 2
--           heard_two y s          what symbol s adds for h = 1: y, negated for symbol 1
--           heard_four re im s     for h = 2: re, im, -re, -im for symbols 0, 1, 2, 3, which stand at 1, j, -1, -j
--           heard h ys i s         what symbol s adds at place i; for h = 2 the real part stands before the imaginary
--           correlation h m ys l   the sum over places for label l's word; nothing is divided
--           clean_at h a w j       soft value j of symbols w at amplitude a, with no noise
--           clean h m a w          the soft values of symbols w at amplitude a, with no noise; unit soft values are
--                                  those at amplitude 1
-- Laws: crate signals.  Assumes nothing: these are definitions.
use Rattle.std.specs.Prelude.{ℕ, zero, suc, ◌+◌, ◌*◌, ◌/◌, ◌%◌, cond, List, eqb, ℤ, pos, neg_ℤ}
use Rattle.range.specs.Below.{list_below}
use Rattle.range.specs.Signed.{sumℤ, negated_if, entry}
use Rattle.rules.specs.Shape.{carriers, half_turn}
use Rattle.rules.specs.Word.{word_at, symbol_at}

abbrev pub soft_length : ℕ → ℕ → ℕ
soft_length h m = cond (eqb h 1) (carriers m) (2 * carriers m)

abbrev pub heard_two : ℤ → ℕ → ℤ
heard_two y s = negated_if (eqb s 1) y

abbrev pub heard_four : ℤ → ℤ → ℕ → ℤ
heard_four re im zero = re
heard_four re im (suc zero) = im
heard_four re im (suc (suc zero)) = neg_ℤ re
heard_four re im (suc (suc (suc s))) = neg_ℤ im

unfoldable pub heard : ℕ → List ℤ → ℕ → ℕ → ℤ
heard h ys i s =
    cond (eqb h 1) (heard_two (entry ys i) s)
    (heard_four (entry ys (2 * i)) (entry ys (2 * i + 1)) s)

unfoldable pub correlation : ℕ → ℕ → List ℤ → ℕ → ℤ
correlation h m ys l = sumℤ (carriers m) (λ i. heard h ys i (word_at h m l i))

-- value j belongs to place j / 2^(h-1): a where the symbol is the phase of that value, -a where it is half a turn on
unfoldable pub clean_at : ℕ → ℕ → List ℕ → ℕ → ℤ
clean_at h a w j =
    cond (eqb (symbol_at w (j / half_turn h)) (j % half_turn h)) (pos a)
    (cond (eqb (symbol_at w (j / half_turn h)) (j % half_turn h + half_turn h)) (neg_ℤ (pos a)) (pos 0))

unfoldable pub clean : ℕ → ℕ → ℕ → List ℕ → List ℤ
clean h m a w = list_below (soft_length h m) (clean_at h a w)
