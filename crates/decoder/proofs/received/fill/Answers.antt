-- `decoder::received::fill` meets its contract: number after number, the table takes the gain of its place and symbol.
-- Assumes nothing.
use Rattle.std.proofs.Common.{◌*◌, ◌≡◌, ◌∙◌, length, arith}
use Rattle.rules.specs.Shape.{phases, carriers}
use Rattle.decoder.proofs.FilledGains.{table_written, all_seen}
use Rattle.decoder.proofs.received.fill.Goals as goal

pub returns : goal.returns
returns g c =
    let at = c.loop-e in
    let shape = g.R.Received.shape c.args.received.now in
    let long : length at.gains ≡ phases shape.h * carriers shape.m = at.auto.gains ∙ c.requires in
    let done : at.e ≡ length at.gains = omega (arith, at.auto.e-end, at.auto.gains, c.loop-e-test.false) in
    record {
      filled = table_written shape.h shape.m _ at.gains long (rw done at at.invariant.written);
      seen = all_seen shape.h shape.m _ (rw (done, long) at at.invariant.seen);
    }
