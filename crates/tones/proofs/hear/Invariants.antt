-- `tones::hear` meets its contract: turn after turn the generator goes one number on and a value is written.
-- Invariant: a loop over the whole slice, which writes, stands at e, and the seed is the e-th.
-- Assumes nothing.
use mathlib.Core.Path.{◌≡◌}
use lib.ListN.{length}
use Rattle.range.proofs.Fills.{Filling}
use Rattle.tones.specs.Tones.{seed_at, heard_at}
use Rattle.tones.proofs.hear.Given as goal

abbrev pub invariant-loop-e : goal.invariant-loop-e
invariant-loop-e l =
    let f = heard_at l.channel.level l.channel.noise l.channel.seed l.four l.word in
    Filling f l.initial.y 0 (length l.initial.y) l.y l.e × (l.seed ≡ seed_at l.channel.seed l.e)
