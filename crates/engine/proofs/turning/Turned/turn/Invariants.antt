-- `engine::turning::Turned::turn` meets its contract: the gains before place i are written.
use Rattle.std.proofs.Common.{ℕ, ◌+◌, ◌*◌, ◌<◌, ◌≡◌, length, get_or}
use Rattle.totals.specs.Climb.{gains_with_at}
use Rattle.engine.proofs.turning.Turned.turn.Given as goal

abbrev pub invariant-loop-i : goal.invariant-loop-i
invariant-loop-i l =
    let n = length l.self.word.now in
    (k : ℕ) → k < l.i → get_or l.to k 0 ≡ gains_with_at l.self.q n l.self.word.now l.self.gains.now (l.s * n + k)
