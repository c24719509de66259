-- `encoder::split` meets its contract: each turn takes the lowest coefficient that is left and divides it away.
-- Assumes nothing.
use Prim.Native.Nat.{suc}
use native.Mathlib.Omega.{arith}
use mathlib.Core.Path.{◌≡◌, refl}
use lib.ListN.{replicate}
use Rattle.rules.specs.Shape.{greatest_m}
use Rattle.rules.specs.Label.{label_path}
use Rattle.rules.proofs.Range.{in_shape_range, paths_in_use_most}
use Rattle.words.proofs.Labels.{label_path_lt}
use Rattle.encoder.proofs.Divide.{divided_first, divided_step, divided_path, divided_rows}
use Rattle.encoder.proofs.split.Goals.{After-loop-r}
use Rattle.encoder.proofs.split.Goals as goal

-- what is left at the end is the path number
path_is : (c : After-loop-r) → c.loop-r.rest ≡ label_path c.args.shape.h c.args.shape.m c.args.label
path_is c = divided_path _ _ _ _ _ _ _ c.loop-r.invariant (omega (arith, c.loop-r-test.false))

pub loop-r-init : goal.loop-r-init
loop-r-init c =
    divided_first _ c.args.shape.m c.args.label _ (replicate (suc greatest_m) 0) c.phases-q.ensures refl

pub loop-r-preserved : goal.loop-r-preserved
loop-r-preserved c =
    divided_step _ _ _ _ _ _ _ c.loop-r.invariant c.loop-r-test.true
    (in_shape_range c.args.shape.h _ c.args.shape.in_range).m_most

pub overflow_cast-result : goal.overflow_cast-result
overflow_cast-result c =
    omega (
      arith,
      path_is (goal.at.overflow_cast-result c).After-loop-r,
      label_path_lt c.args.shape.h c.args.shape.m c.args.label c.requires,
      paths_in_use_most c.args.shape.m,
    )

pub returns : goal.returns
returns c = record {
  path = path_is (goal.at.returns c).After-loop-r;
  rows = divided_rows _ _ _ _ _ _ _ c.loop-r.invariant (omega (arith, c.loop-r-test.false));
}
