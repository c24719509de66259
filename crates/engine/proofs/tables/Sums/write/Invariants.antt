-- `engine::tables::Sums::write` meets its contract: the sums before i are written.
use Rattle.std.proofs.Common.{ℕ, ◌+◌, ◌<◌, ◌≡◌, get_or}
use Rattle.engine.proofs.tables.Sums.write.Given as goal

abbrev pub invariant-loop-i : goal.invariant-loop-i
invariant-loop-i l = (k : ℕ) → k < l.i → get_or l.to k 0 ≡ get_or l.self.x.now k 0 + get_or l.self.y.now k 0
