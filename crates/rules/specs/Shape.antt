-- The shape of a word: 01 "What a logger may send".
-- Defines:  greatest_h, greatest_m    the ends of the ranges of h and m; they stand here alone
--           path_widths, path_bits m  01's table of w, which stands here alone; w, the bits of a path number
--           in_h h, in_m m, in_shape  whether h is in 1..greatest_h, m in 2..greatest_m, both
--           phases h, half_turn h     2^h phases, and half as many, 2^(h-1)
--           carriers m                N = 2^m
--           paths_in_use m            2^w
--           message_bits h m          w + h (m + 1)
--           messages h m              how many message numbers there are: 2^(w + h (m + 1))
--           most_path_bits            of the greatest shape: w
--           most_coefficient_bits     the bits of its coefficients and the constant
--           most_bits                 the bits of its message numbers
-- Assumes nothing: these are definitions.
use Rattle.std.specs.Prelude.{ℕ, ◌+◌, ◌-◌, ◌*◌, ◌^◌, Bool, ◌&&◌, List, [], ◌∷◌, leb, get_or}

abbrev pub greatest_h : ℕ
greatest_h = 3

abbrev pub greatest_m : ℕ
greatest_m = 5

-- w for m = 2, 3, ..
abbrev pub path_widths : List ℕ
path_widths = 0 ∷ 1 ∷ 3 ∷ 5 ∷ []

unfoldable pub path_bits : ℕ → ℕ
path_bits m = get_or path_widths (m - 2) 0

abbrev pub in_h : ℕ → Bool
in_h h = leb 1 h && leb h greatest_h

abbrev pub in_m : ℕ → Bool
in_m m = leb 2 m && leb m greatest_m

abbrev pub in_shape : ℕ → ℕ → Bool
in_shape h m = in_h h && in_m m

abbrev pub phases : ℕ → ℕ
phases h = 2 ^ h

abbrev pub half_turn : ℕ → ℕ
half_turn h = 2 ^ (h - 1)

abbrev pub carriers : ℕ → ℕ
carriers m = 2 ^ m

abbrev pub paths_in_use : ℕ → ℕ
paths_in_use m = 2 ^ path_bits m

abbrev pub message_bits : ℕ → ℕ → ℕ
message_bits h m = path_bits m + h * (m + 1)

abbrev pub messages : ℕ → ℕ → ℕ
messages h m = 2 ^ message_bits h m

abbrev pub most_path_bits : ℕ
most_path_bits = get_or path_widths (greatest_m - 2) 0

abbrev pub most_coefficient_bits : ℕ
most_coefficient_bits = greatest_h * (greatest_m + 1)

abbrev pub most_bits : ℕ
most_bits = most_path_bits + most_coefficient_bits
