-- `steps::steps` meets its contract: the constants are the table of the paths in use, which antt computes and compares.
-- Assumes nothing.
use mathlib.Core.Path.{sym, ◌∙◌}
use mathlib.Core.List.{flat_map}
use Rattle.range.specs.Below.{sum_below, list_below, rows_below}
use Rattle.rules.specs.Shape.{path_bits}
use Rattle.rules.specs.Path.{keep, without, orders, up_to, paths, path_at}
use Rattle.steps.proofs.PathTable.{in_use_range, steps_of_unused, packed, table, starts, start_lt, table_steps}
use Rattle.steps.proofs.steps.Goals as goal

pub returns-then-not-in_use : goal.returns-then-not-in_use
returns-then-not-in_use c =
    steps_of_unused _ _ (sym c.in_use.ensures ∙ c.if-not-in_use.true)

pub bounds-first : goal.bounds-first
unfolding list_below path_bits starts sum_below
bounds-first c =
    let u = in_use_range _ _ (sym c.in_use.ensures ∙ c.if-not-in_use.false) in
    start_lt _ _ u.0 u.1 u.2

pub returns : goal.returns
unfolding flat_map keep list_below orders packed path_at path_bits paths rows_below starts sum_below table up_to without
returns c =
    let u = in_use_range _ _ (sym c.in_use.ensures ∙ c.if-not-in_use.false) in
    c.unpack.ensures ∙ table_steps _ _ u.0 u.1 u.2
