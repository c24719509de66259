-- `decoder::hard` meets its contract: where nothing is refused, the word is one of a shape that is decoded.
-- Assumes nothing.
use mathlib.Core.Path.{sym}
use Rattle.rules.proofs.RefusalLaws.{hard_taken}
use Rattle.decoder.proofs.hard.Goals as goal

pub invariant_of-shape : goal.invariant_of-shape
invariant_of-shape c = record { in_range = (hard_taken _ _ _ (sym c.in_ok-hard.ensures)).symbols.shape }

pub invariant_of-decode : goal.invariant_of-decode
invariant_of-decode c =
    let t = hard_taken _ _ _ (sym c.in_ok-hard.ensures) in
    record { few = t.few; long = t.symbols.long; below = t.symbols.below }
