-- What the encoder adds up at place i, said of the form that it holds.
-- Defines:  term_at f i r   the term of row r: coefficient times digit
--           step_at f i k   the digit that step k + 1 names
--           link_at f i k   link k + 1: the digit of its one step times that of the other
--           linear_in f i   the sum of the terms
--           links_in f i    the sum of the links
--           symbol_in f i   both, with the lift times the digit of the first step, modulo the phases
-- Not here: the sums over arrays by which these are said (Arrays).  Assumes nothing: these are definitions.
use Rattle.std.specs.Prelude.{ℕ, ◌+◌, ◌*◌, get_or}
use Rattle.rules.specs.Shape.{phases}
use Rattle.encoder.specs.Arrays.{cell, linear_of, links_of, symbol_of}
use Rattle.encoder.specs.declared.Form.{Form}

abbrev pub term_at : Form → ℕ → ℕ → ℕ
term_at f i r = get_or f.coefficients r 0 * cell f.generator r i

abbrev pub step_at : Form → ℕ → ℕ → ℕ
step_at f i k = cell f.generator (get_or f.steps k 0) i

abbrev pub link_at : Form → ℕ → ℕ → ℕ
link_at f i k = step_at f i k * step_at f i (k + 1)

abbrev pub linear_in : Form → ℕ → ℕ
linear_in f i = linear_of f.generator f.coefficients f.shape.m i

abbrev pub links_in : Form → ℕ → ℕ
links_in f i = links_of f.generator f.steps f.shape.m i

unfoldable pub symbol_in : Form → ℕ → ℕ
symbol_in f i = symbol_of f.generator f.steps f.coefficients f.shape.m (phases f.shape.h) f.lift i
