-- `encoder::generator` meets its contract: row after row it is the generator's.
-- Assumes nothing.
use mathlib.Core.List.{[]}
use Rattle.std.proofs.Common.{rules}
use Rattle.range.specs.Below.{list_below}
use Rattle.rules.specs.Shape.{carriers, greatest_m}
use Rattle.rules.specs.Place.{generator_at}
use Rattle.encoder.specs.Arrays.{generator_rows}
use Rattle.encoder.proofs.FromFn.{made_is}
use Rattle.encoder.proofs.generator.Goals as goal

pub returns : goal.returns
unfolding generator_rows
returns c =
    made_is _ (λ r. list_below (carriers greatest_m) (generator_at c.args.shape.m r)) _ (λ i y u k. search rules) [] _ _
    c.from_fn.ensures.items
