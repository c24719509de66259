-- `Shape::paths_in_use` meets its contract: a power below 64 bits.  Assumes nothing.
use mathlib.Core.Path.{◌∙◌}
use Rattle.shape.proofs.Powers.{power_uses}
use Rattle.shape.proofs.Shape.paths_in_use.Goals as goal

pub returns : goal.returns
returns c = c.power.ensures ∙ power_uses c.args.self.m c.path_bits.result c.path_bits.ensures
