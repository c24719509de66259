-- `engine::tables::Sums::greatest` meets its contract: no sum gone through is above the greatest so far.
use Rattle.std.proofs.Common.{ℕ, ◌+◌, ◌<◌, ◌≤◌, get_or}
use Rattle.engine.proofs.tables.Sums.greatest.Given as goal

abbrev pub invariant-loop-i : goal.invariant-loop-i
invariant-loop-i l = (k : ℕ) → k < l.i → get_or l.self.x.now k 0 + get_or l.self.y.now k 0 ≤ l.most
