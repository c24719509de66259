-- What the encoder computes, said of the arrays that it holds. Not 01's rules: proofs/Formula.antt ties these to them.
-- Defines:  generator_rows m     the generator as code holds it: a row for each coefficient of the greatest m, all
--                                places
--           cell g r i           row r of the array g at place i
--           linear_of, links_of  the sum over the rows, and over the links, at place i
--           symbol_of            both, with s times the row of the first step, modulo q
--           lifted_at h m l s i  the formula plus s x_p(1), modulo 2^h: the word for s = 0, the partner for s = 2^(h-1)
--           Split h m l t        the parts t of label l
-- Not here: a form, which holds such arrays (Forms).  Assumes nothing: these are definitions.
use Rattle.std.specs.Prelude.{ℕ, suc, ◌+◌, ◌-◌, ◌*◌, ◌/◌, ◌%◌, ◌≤◌, ◌≡◌, List, [], get_or}
use Rattle.range.specs.Below.{sum_below, list_below}
use Rattle.rules.specs.Shape.{greatest_m, carriers, phases}
use Rattle.rules.specs.Place.{digit, generator_at}
use Rattle.rules.specs.Path.{head_of, path_at}
use Rattle.rules.specs.Label.{label_path, row_coefficient}
use Rattle.rules.specs.Word.{form_at}
use Rattle.encoder.specs.declared.Parts.{Parts}

unfoldable pub generator_rows : ℕ → List (List ℕ)
generator_rows m = list_below (suc greatest_m) (λ r. list_below (carriers greatest_m) (generator_at m r))

abbrev pub cell : List (List ℕ) → ℕ → ℕ → ℕ
cell g r i = get_or (get_or g r []) i 0

unfoldable pub linear_of : List (List ℕ) → List ℕ → ℕ → ℕ → ℕ
linear_of g c m i = sum_below (m + 1) (λ r. get_or c r 0 * cell g r i)

unfoldable pub links_of : List (List ℕ) → List ℕ → ℕ → ℕ → ℕ
links_of g p m i = sum_below (m - 1) (λ k. cell g (get_or p k 0) i * cell g (get_or p (k + 1) 0) i)

unfoldable pub symbol_of : List (List ℕ) → List ℕ → List ℕ → ℕ → ℕ → ℕ → ℕ → ℕ
symbol_of g p c m q s i = (q / 2 * links_of g p m i + linear_of g c m i + s * cell g (get_or p 0 0) i) % q

unfoldable pub lifted_at : ℕ → ℕ → ℕ → ℕ → ℕ → ℕ
lifted_at h m l s i = (form_at h m l i + s * digit m i (head_of (path_at m (label_path h m l)))) % phases h

pub record Split (h m l : ℕ) (t : Parts) : Type 0 where
  pub path : t.path.0 ≡ label_path h m l
  pub rows : (r : ℕ) → r ≤ m → get_or t.coefficients r 0 ≡ row_coefficient h m l r
