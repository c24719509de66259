-- Places of a word and the generator: 01 "What a logger may send".
-- Defines:  digit m i k          digit x_k of place i, x_1 the most significant of m digits
--           generator_at m r i   row r of the generator at place i: row 0 all ones, row k the digits x_k
--           generator m          the rows, each of N zeros and ones
-- Assumes nothing: these are definitions.
use Rattle.std.specs.Prelude.{ℕ, zero, suc, ◌-◌, ◌/◌, ◌%◌, ◌^◌, List}
use Rattle.range.specs.Below.{list_below}
use Rattle.rules.specs.Shape.{carriers}

-- x_1 is worth 2^(m-1) and x_m is worth 1
unfoldable pub digit : ℕ → ℕ → ℕ → ℕ
digit m i k = i / 2 ^ (m - k) % 2

unfoldable pub generator_at : ℕ → ℕ → ℕ → ℕ
generator_at m zero i = 1
generator_at m (suc k) i = digit m i (suc k)

unfoldable pub generator : ℕ → List (List ℕ)
generator m = list_below (suc m) (λ r. list_below (carriers m) (generator_at m r))
