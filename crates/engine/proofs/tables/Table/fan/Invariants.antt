-- `engine::tables::Table::fan` meets its contract: the runs of the coefficients before c are written.
use Rattle.std.proofs.Common.{◌+◌, ◌*◌}
use Rattle.totals.specs.Climb.{climbed_at}
use Rattle.engine.proofs.Pieces.{Laid}
use Rattle.engine.proofs.tables.Table.fan.Given as goal

abbrev pub invariant-loop-c : goal.invariant-loop-c
invariant-loop-c l =
    let table = l.self in
    Laid (λ e. climbed_at table.q table.half table.w table.numbers.now (l.t * (table.q * table.w) + e)) l.to
    (l.c * table.w)
