-- `engine::tables::Table::row` meets its contract: the standing is that after the first s values.
use Rattle.totals.specs.Climb.{pair_at}
use Rattle.standing.specs.Lead.{lead_from}
use Rattle.std.proofs.Common.{◌≡◌}
use Rattle.engine.proofs.tables.Table.row.Given as goal

abbrev pub invariant-loop-s : goal.invariant-loop-s
invariant-loop-s l =
    let table = l.self in
    l.st ≡ lead_from l.first (λ k. pair_at table.q table.half table.w table.numbers.now k l.c l.i) l.s l.fn.before
