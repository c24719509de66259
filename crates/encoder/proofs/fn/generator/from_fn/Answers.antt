-- The closure of `encoder::generator` meets its contract: row 0 holds ones, any other the digits.
-- Assumes nothing.
use native.Mathlib.Omega.{arith}
use mathlib.Core.Path.{refl, ◌∙◌}
use Rattle.range.specs.Below.{list_below}
use Rattle.rules.specs.Place.{generator_at}
use Rattle.encoder.proofs.Matrix.{generator_row}
use Rattle.encoder.proofs.fn.generator.from_fn.Goals as goal

pub returns-then-r-eq0 : goal.returns-then-r-eq0
unfolding generator_at list_below
returns-then-r-eq0 c = rw c.if-r-eq0.true refl

pub returns-else-r-eq0 : goal.returns-else-r-eq0
returns-else-r-eq0 c = c.digits.ensures ∙ generator_row c.captures.shape.m c.args.r _ (omega (arith, c.if-r-eq0.false))
