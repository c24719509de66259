-- `shape::path_bits` meets its contract: the table is the definition's own, and 0 stands for every m outside it.
-- Assumes nothing.
use Rattle.std.proofs.Common.{rules}
use Rattle.rules.specs.Shape.{path_bits}
use Rattle.shape.proofs.path_bits.Goals as goal

pub returns : goal.returns
unfolding path_bits
returns c = search rules
