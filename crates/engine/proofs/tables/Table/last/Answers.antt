-- `engine::tables::Table::last` meets its contract: the labels of one coefficient after the other.
-- Assumes nothing.
use Rattle.std.proofs.Common.{arith}
use Rattle.standing.proofs.Lead.{lead_from_none}
use Rattle.engine.proofs.Counting.{blocks_next}
use Rattle.engine.proofs.tables.Table.last.Goals as goal

pub loop-c-init : goal.loop-c-init
loop-c-init c = lead_from_none _ _ _ _ (omega arith)

pub loop-c-preserved : goal.loop-c-preserved
loop-c-preserved c =
    let at = c.loop-c in
    let table = c.args.self.now in
    blocks_next table.q table.half table.w table.numbers.now c.requires.0 c.args.first at.c _ at.st _
    c.loop-c-test.true at.invariant c.block-st.ensures
