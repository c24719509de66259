-- `engine::tables::Table::block` meets its contract: row after row, and where nothing passes the second best, the
-- standing stays what it is.
-- Assumes nothing.
use Rattle.std.proofs.Common.{arith}
use Rattle.standing.proofs.Lead.{lead_from_none}
use Rattle.engine.proofs.Counting.{rows_next, block_kept}
use Rattle.engine.proofs.tables.Table.block.Goals as goal

pub returns-then-not-passes : goal.returns-then-not-passes
returns-then-not-passes c =
    let table = c.args.self.now in
    block_kept table.q table.half table.w table.numbers.now c.args.c c.args.first c.args.before table.runs.symbols
    (c.passes.ensures c.if-not-passes.true)

pub loop-i-init : goal.loop-i-init
loop-i-init c = lead_from_none _ _ _ _ (omega arith)

pub loop-i-preserved : goal.loop-i-preserved
loop-i-preserved c =
    let at = c.loop-i in
    let table = c.args.self.now in
    rows_next table.q table.half table.w table.numbers.now c.args.c c.args.first at.i _ at.st _ at.invariant
    c.row-st.ensures
