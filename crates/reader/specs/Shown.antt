-- What the symbols show of a label, if they are its word: c stands at place 0, and c_k is what place 2^(m-k) adds to
-- it.
-- Defines:  shown h m w k        the coefficient c_k that w shows
--           shown_up_to h m w k  c_1, .., c_k as one number in base 2^h
--           low_of h m w         c_1, .., c_m, c as one number: the label number with path number 0
--           label_with h m w n   the label number with path number n
-- Laws: proofs/ShownLaws.antt.  Assumes nothing: these are definitions.
use Rattle.std.specs.Prelude.{ℕ, zero, suc, ◌+◌, ◌-◌, ◌*◌, ◌^◌, List}
use Rattle.rules.specs.Shape.{phases}
use Rattle.rules.specs.Pair.{minus}
use Rattle.rules.specs.Word.{symbol_at}

unfoldable pub shown : ℕ → ℕ → List ℕ → ℕ → ℕ
shown h m w k = minus (phases h) (symbol_at w (2 ^ (m - k))) (symbol_at w 0)

unfoldable pub shown_up_to : ℕ → ℕ → List ℕ → ℕ → ℕ
shown_up_to h m w zero = 0
shown_up_to h m w (suc k) = shown_up_to h m w k * phases h + shown h m w (suc k)

unfoldable pub low_of : ℕ → ℕ → List ℕ → ℕ
low_of h m w = shown_up_to h m w m * phases h + symbol_at w 0

unfoldable pub label_with : ℕ → ℕ → List ℕ → ℕ → ℕ
label_with h m w n = n * phases h ^ (m + 1) + low_of h m w
