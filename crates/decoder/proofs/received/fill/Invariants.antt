-- `decoder::received::fill` meets its contract: the gains before number e are written, and what they tell is known.
use Rattle.std.proofs.Common.{ℕ, ◌<◌}
use Rattle.engine.proofs.Pieces.{Laid}
use Rattle.decoder.proofs.FilledGains.{gain_of, at_number}
use Rattle.decoder.proofs.received.fill.Given as goal

abbrev pub invariant-loop-e : goal.invariant-loop-e
invariant-loop-e g l =
    let received = g.R.Received in
    let m = (received.shape l.received).m in
    record {
      written : Laid (gain_of m (received.gain l.received)) l.gains l.e;
      seen : (k : ℕ) → k < l.e → at_number m (received.seen l.received) k;
    }
