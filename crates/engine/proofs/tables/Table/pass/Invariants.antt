-- `engine::tables::Table::pass` meets its contract: the runs before t are written.
use Rattle.std.proofs.Common.{◌*◌}
use Rattle.totals.specs.Climb.{climbed_at}
use Rattle.engine.proofs.Pieces.{Laid}
use Rattle.engine.proofs.tables.Table.pass.Given as goal

abbrev pub invariant-loop-t : goal.invariant-loop-t
invariant-loop-t l =
    let table = l.self in
    Laid (climbed_at table.q table.half l.w table.numbers.now) l.to (l.t * l.step)
