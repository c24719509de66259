-- A path's steps as code holds them.
-- Defines:  path_row m n    p(1), .., p(m) of path n, and 0 after the m-th, as many as the greatest m
--           in_use m n      whether m is in its range and path n among those in use
--           steps_of m n    the row of a path in use, and zeros for any other numbers
--           step_in m x k   step k + 1 of the path of m with number x: its digit to base 8, the first step the highest
--           unpacked m x    such a path's steps, and 0 after the m-th
-- Laws: proofs/PathTable.antt.  Assumes nothing: these are definitions.
use Rattle.std.specs.Prelude.{ℕ, ◌-◌, ◌*◌, ◌/◌, ◌%◌, ◌^◌, Bool, cond, ◌&&◌, List, ltb, get_or, replicate}
use Rattle.range.specs.Below.{filled}
use Rattle.rules.specs.Shape.{greatest_m, in_m, paths_in_use}
use Rattle.rules.specs.Path.{path_at}

unfoldable pub path_row : ℕ → ℕ → List ℕ
path_row m n = filled m (λ k. get_or (path_at m n) k 0) (replicate greatest_m 0)

abbrev pub in_use : ℕ → ℕ → Bool
in_use m n = in_m m && ltb n (paths_in_use m)

unfoldable pub steps_of : ℕ → ℕ → List ℕ
steps_of m n = cond (in_use m n) (path_row m n) (replicate greatest_m 0)

abbrev pub step_in : ℕ → ℕ → ℕ → ℕ
step_in m x k = x / 2 ^ (3 * (m - 1 - k)) % 8

unfoldable pub unpacked : ℕ → ℕ → List ℕ
unpacked m x = filled m (step_in m x) (replicate greatest_m 0)
