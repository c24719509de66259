-- `engine::tables::Table::passes` meets its contract: no sum of the symbols before s passes the second best.
use Rattle.std.proofs.Common.{ℕ, ◌<◌, ◌≤◌}
use Rattle.totals.specs.Climb.{pair_at}
use Rattle.engine.proofs.tables.Table.passes.Given as goal

abbrev pub invariant-loop-s : goal.invariant-loop-s
invariant-loop-s l =
    let table = l.self in
    (k i : ℕ) → k < l.s → i < table.w → pair_at table.q table.half table.w table.numbers.now k l.c i ≤ l.second
