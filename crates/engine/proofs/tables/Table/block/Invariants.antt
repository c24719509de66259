-- `engine::tables::Table::block` meets its contract: the standing is that after the first i rows.
use Rattle.std.proofs.Common.{◌*◌, ◌≡◌}
use Rattle.standing.specs.Lead.{lead_from}
use Rattle.engine.proofs.Counting.{block_at}
use Rattle.engine.proofs.tables.Table.block.Given as goal

abbrev pub invariant-loop-i : goal.invariant-loop-i
invariant-loop-i l =
    let table = l.self in
    l.st ≡ lead_from l.first (block_at table.q table.half table.w table.numbers.now l.c) (l.i * table.q) l.fn.before
