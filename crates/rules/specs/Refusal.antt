-- For each call what is refused, and in which order: 01 "When the receiver says no".
-- Defines:  send_refusal h m n g     encode and partner, with n places for output and message number g
--           pair_refusal h m a b     the pair check: a refusal 3 tells the place, then which word
--           refuse_word h m w o      the refusals of one word, its length and then its symbols, else o
--           word_refusal h m w       word reading, before it looks for a message
--           soft_refusal h m ys      soft decoding
--           hard_refusal h m w       hard decoding
--           transform_refusal m y n  the transform, of two areas, the second n entries long
--           pair_outcome h m a b     the pair check with its answer
--           read_outcome h m w       word reading with its answer (or_no_word: 5 where no message is found)
-- What the other calls answer where nothing is refused, their own promises say.
-- Assumes nothing: these are definitions.
use Rattle.std.specs.Prelude.{ℕ, Bool, ◌||◌, List, [], ◌∷◌, ℤ, length}
use Rattle.std.proofs.Math.Option.{Option, none, some}
use Rattle.rules.specs.Shape.{carriers}
use Rattle.rules.specs.Word.{symbol_at}
use Rattle.rules.specs.Pair.{golay_pair}
use Rattle.rules.specs.Soft.{soft_length}
use Rattle.rules.specs.Outcome.{Outcome, gives, refuses, allowed, and_then, refuse, refuse_at}
use Rattle.rules.specs.Table.{bad_shape, bad_m, bad_length, short_area, bad_symbol, bad_message, message_with, octary}
use Rattle.rules.specs.Table.{bad_value}

unfoldable pub send_refusal : ℕ → ℕ → ℕ → ℕ → Outcome (Unit {0})
send_refusal h m n g =
    refuse 1 (bad_shape h m)
    (refuse 2 (bad_length n (carriers m))
    (refuse 4 (bad_message h m g) allowed))

unfoldable pub pair_refusal : ℕ → ℕ → List ℕ → List ℕ → Outcome (Unit {0})
pair_refusal h m a b =
    refuse 1 (bad_shape h m)
    (refuse 2 (bad_length (length a) (carriers m) || bad_length (length b) (carriers m))
    (refuse_at 3 (bad_symbol h a) (1 ∷ [])
    (refuse_at 3 (bad_symbol h b) (2 ∷ []) allowed)))

-- one word: its length, then its symbols
abbrev pub refuse_word : {A : Type 0} → ℕ → ℕ → List ℕ → Outcome A → Outcome A
refuse_word h m w o = refuse 2 (bad_length (length w) (carriers m)) (refuse_at 3 (bad_symbol h w) [] o)

unfoldable pub word_refusal : ℕ → ℕ → List ℕ → Outcome (Unit {0})
word_refusal h m w = refuse 1 (bad_shape h m) (refuse_word h m w allowed)

unfoldable pub soft_refusal : ℕ → ℕ → List ℤ → Outcome (Unit {0})
soft_refusal h m ys =
    refuse 1 (bad_shape h m) (refuse 6 (octary h) (refuse 2 (bad_length (length ys) (soft_length h m)) allowed))

unfoldable pub hard_refusal : ℕ → ℕ → List ℕ → Outcome (Unit {0})
hard_refusal h m w = refuse 1 (bad_shape h m) (refuse 6 (octary h) (refuse_word h m w allowed))

unfoldable pub transform_refusal : ℕ → List ℤ → ℕ → Outcome (Unit {0})
transform_refusal m y n =
    refuse 1 (bad_m m)
    (refuse 2 (short_area (length y) m || short_area n m)
    (refuse_at 7 (bad_value m y) [] allowed))

unfoldable pub pair_outcome : ℕ → ℕ → List ℕ → List ℕ → Outcome Bool
pair_outcome h m a b = and_then (pair_refusal h m a b) (gives (golay_pair h m (symbol_at a) (symbol_at b)))

abbrev pub or_no_word : Option ℕ → Outcome ℕ
or_no_word (some g) = gives g
or_no_word none = refuses 5 []

unfoldable pub read_outcome : ℕ → ℕ → List ℕ → Outcome ℕ
read_outcome h m w = and_then (word_refusal h m w) (or_no_word (message_with h m w))
