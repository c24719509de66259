-- `engine::turning::Turned::write` meets its contract: a run for each symbol, one after the other.
-- Assumes nothing.
use Rattle.std.proofs.Common.{ℕ, ◌*◌, ◌≡◌, ◌∙◌, length, ap, arith}
use Rattle.totals.specs.Climb.{gains_with}
use Rattle.engine.proofs.Pieces.{written_all}
use Rattle.engine.proofs.turning.Turned.write.Goals as goal

pub returns : goal.returns
unfolding gains_with
returns c =
    let at = c.loop-s in
    let self = c.args.self.now in
    let done : at.s ≡ self.q = omega (arith, at.auto.s-end, c.loop-s-test.false) in
    let all : at.s * length self.word.now ≡ self.q * length self.word.now =
    ap (λ (s : ℕ). s * length self.word.now) done in
    written_all _ at.to _ (at.auto.to ∙ c.requires) (rw all at at.invariant)
