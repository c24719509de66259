-- `engine::tables::Table::fan` meets its contract: run after run, each of the sums of two runs.
-- Assumes nothing.
use Rattle.std.proofs.Common.{◌+◌, ◌*◌, ◌≤◌, ◌∙◌, length, arith}
use Rattle.engine.proofs.Pieces.{length-part, written_next}
use Rattle.engine.proofs.RunLaws.{climbed_at_sum}
use Rattle.range.proofs.Products.{times_within}
use Rattle.engine.proofs.tables.Table.fan.Goals as goal

pub loop-c-preserved : goal.loop-c-preserved
loop-c-preserved c =
    let at = c.loop-c in
    let table = c.args.self.now in
    let room : at.c * table.w + table.w ≤ length at.to =
    omega (arith, times_within at.c table.q table.w c.loop-c-test.true, c.requires.1, at.auto.to) in
    written_next _ at.to c.write.new.to _ (at.c * table.w) table.w _
    (omega (arith, room))
    (c.write.auto.to ∙ length-part (at.c * table.w) _ table.w at.to (omega arith) (omega (arith, room)))
    (omega arith) at.invariant
    (λ i l. c.write.ensures i (rw c.sums.ensures.0 l) ∙ c.sums.ensures.1 i l
    ∙ climbed_at_sum table.q table.half table.w table.numbers.now c.args.t at.c i c.loop-c-test.true l)
