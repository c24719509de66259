-- `engine::tables::Table::last` meets its contract: the standing is that after the labels of the coefficients before c.
use Rattle.std.proofs.Common.{◌*◌, ◌≡◌}
use Rattle.totals.specs.Climb.{climbed, by_label}
use Rattle.standing.specs.Lead.{lead_from}
use Rattle.engine.proofs.tables.Table.last.Given as goal

abbrev pub invariant-loop-c : goal.invariant-loop-c
invariant-loop-c l =
    let table = l.self in
    l.st
    ≡ lead_from l.first (by_label table.q (table.w * table.q) (climbed table.q 1 table.w table.numbers.now))
    (l.c * (table.w * table.q)) l.fn.before
