-- `engine::tables::Table::row` meets its contract: value after value, each of the next label.
-- Assumes nothing.
use Rattle.std.proofs.Common.{◌∙◌, refl}
use Rattle.standing.proofs.Lead.{lead_from_turn, lead_from_none}
use Rattle.engine.proofs.tables.Table.row.Goals as goal

pub loop-s-init : goal.loop-s-init
loop-s-init c = lead_from_none _ _ _ _ refl

pub loop-s-preserved : goal.loop-s-preserved
loop-s-preserved c =
    let at = c.loop-s in
    c.better-st.ensures
    ∙ lead_from_turn _ _ at.s _ _ _ at.st at.invariant (c.sum.ensures ∙ c.sums.ensures.1 c.args.i c.requires.1) refl
