-- `engine::turning::Turned::write` meets its contract: the runs of the symbols before s are written.
use Rattle.std.proofs.Common.{◌*◌}
use Rattle.totals.specs.Climb.{gains_with_at}
use Rattle.engine.proofs.Pieces.{Laid}
use Rattle.engine.proofs.turning.Turned.write.Given as goal

abbrev pub invariant-loop-s : goal.invariant-loop-s
invariant-loop-s l = Laid (gains_with_at l.self.q l.n l.self.word.now l.self.gains.now) l.to (l.s * l.n)
