-- `engine::turning::Turned::turn` meets its contract: place after place, the gain that stands the word's symbol further
-- on.
-- Assumes nothing.
use Rattle.std.proofs.Common.{arith}
use Rattle.std.proofs.lemmas.Grind.{common_steps}
use Rattle.engine.proofs.RunLaws.{gains_with_at_gain}
use Rattle.engine.proofs.turning.Turned.turn.Goals as goal

pub loop-i-preserved : goal.loop-i-preserved
loop-i-preserved c =
    let self = c.args.self.now in
    let stored = gains_with_at_gain self.q _ self.word.now self.gains.now c.args.s c.loop-i.i _ _
    c.loop-i-test.true c.from.ensures c.wrap-e.ensures in
    λ k l. grind (arith, common_steps, stored, c.loop-i.invariant)
