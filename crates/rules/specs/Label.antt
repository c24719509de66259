-- Labels and message numbers: 01 "What a logger may send".
-- A label is counted by its label number, from 0 in label order. A message number is what is sent and answered.
-- Label numbers and message numbers are two things: label_of and message_of go between them.
-- Defines:  labels h m               how many labels there are: 2^(w + h (m + 1))
--           label_path h m l         the path number of label l, which stands highest
--           coefficient h m l k      c_k of label l, k in 1..m, c_1 the highest
--           constant h l             c of label l, the lowest
--           row_coefficient h m l r  what multiplies row r of the generator: c for row 0, c_r for row r
--           label_parts h m l        the label itself: path number, c_1, .., c_m, c
--           label_of h m g           the label number of message g
--           message_of h m l         the message number of label l
-- Laws: proofs/Messages.antt (message and label numbers), crate words (the numbers are in label order, and a label
-- number and its parts determine each other).
-- Assumes nothing: these are definitions.
use Rattle.std.specs.Prelude.{ℕ, zero, suc, ◌+◌, ◌-◌, ◌/◌, ◌%◌, ◌^◌, List, [], ◌∷◌, ◌++◌}
use Rattle.range.specs.Below.{list_below}
use Rattle.rules.specs.Shape.{phases, messages}

abbrev pub labels : ℕ → ℕ → ℕ
labels h m = messages h m

unfoldable pub label_path : ℕ → ℕ → ℕ → ℕ
label_path h m l = l / phases h ^ (m + 1)

unfoldable pub coefficient : ℕ → ℕ → ℕ → ℕ → ℕ
coefficient h m l k = l / phases h ^ (m + 1 - k) % phases h

unfoldable pub constant : ℕ → ℕ → ℕ
constant h l = l % phases h

unfoldable pub row_coefficient : ℕ → ℕ → ℕ → ℕ → ℕ
row_coefficient h m l zero = constant h l
row_coefficient h m l (suc k) = coefficient h m l (suc k)

unfoldable pub label_parts : ℕ → ℕ → ℕ → List ℕ
label_parts h m l = label_path h m l ∷ list_below m (λ k. coefficient h m l (suc k)) ++ (constant h l ∷ [])

-- each coefficient stands in h plain binary bits, so the two numbers are the same
unfoldable pub label_of : ℕ → ℕ → ℕ → ℕ
label_of h m g = g

unfoldable pub message_of : ℕ → ℕ → ℕ → ℕ
message_of h m l = l
