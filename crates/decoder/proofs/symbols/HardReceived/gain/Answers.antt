-- `decoder::symbols::Hard::gain` meets its contract: half a turn less the Lee distance is how far the difference is
-- from half a turn.
-- Assumes nothing.
use Rattle.std.proofs.Common.{ℕ, ◌+◌, ◌-◌, ◌*◌, ◌<◌, ◌≤◌, ◌≡◌, ◌∙◌, arith}
use native.Mathlib.Nat.{mod-lt}
use lib.ListN.{get_or}
use lib.Pow.{pow_mono}
use Rattle.rules.specs.Shape.{phases, half_turn}
use Rattle.rules.specs.Pair.{minus}
use Rattle.rules.specs.Distance.{lee_of}
use Rattle.rules.proofs.Range.{in_shape_range, phases_half}
use Rattle.totals.specs.Gains.{nearness, hard_gain}
use Rattle.decoder.proofs.symbols.HardReceived.gain.Goals.{After-abs_diff}
use Rattle.decoder.proofs.symbols.HardReceived.gain.Goals as goal

-- a turn is two half turns
turn : (c : After-abs_diff) → phases c.args.self.now.shape.h ≡ 2 * half_turn c.args.self.now.shape.h
turn c =
    let shape = c.args.self.now.shape in
    phases_half shape.h (in_shape_range shape.h shape.m shape.in_range).h_least

difference : (c : After-abs_diff) → c.minus-difference.result
    ≡ minus (phases c.args.self.now.shape.h) (get_or c.args.self.now.word.now c.args.place 0) c.args.symbol
difference c = c.minus-difference.ensures ∙ rw c.phases.ensures

difference_lt : (c : After-abs_diff) → c.minus-difference.result < phases c.args.self.now.shape.h
unfolding minus
difference_lt c =
    let q : ℕ = phases c.args.self.now.shape.h in
    let a : ℕ = get_or c.args.self.now.word.now c.args.place 0 in
    rw (difference c) (mod-lt (a + (q - c.args.symbol)) {m = q} (omega (arith, c.requires.1)))

pub overflow_cast-result : goal.overflow_cast-result
overflow_cast-result c =
    let four : phases c.args.self.now.shape.h ≤ 4 = pow_mono c.args.self.now.few in
    omega (
      arith,
      four,
      c.abs_diff.ensures,
      c.half_turn.ensures,
      difference_lt (goal.at.overflow_cast-result c).After-abs_diff,
      turn (goal.at.overflow_cast-result c).After-abs_diff,
    )

pub returns-clause-told : goal.returns-clause-told
unfolding hard_gain nearness lee_of
returns-clause-told c =
    omega (
      arith,
      c.abs_diff.ensures,
      c.half_turn.ensures,
      difference (goal.at.returns-clause-told c).After-abs_diff,
      difference_lt (goal.at.returns-clause-told c).After-abs_diff,
      turn (goal.at.returns-clause-told c).After-abs_diff,
    )
