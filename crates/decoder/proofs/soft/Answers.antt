-- `decoder::soft` meets its contract: where nothing is refused, the values are those of a shape that is decoded.
-- Assumes nothing.
use mathlib.Core.Path.{sym, ◌∙◌}
use Rattle.rules.proofs.RefusalLaws.{soft_taken}
use Rattle.decoder.proofs.Lengths.{soft_length_product}
use Rattle.decoder.proofs.soft.Goals as goal

pub invariant_of-shape : goal.invariant_of-shape
invariant_of-shape c = record { in_range = (soft_taken _ _ _ (sym c.in_ok-soft.ensures)).shape }

pub invariant_of-decode : goal.invariant_of-decode
invariant_of-decode c =
    let t = soft_taken _ _ _ (sym c.in_ok-soft.ensures) in
    record { few = t.few; long = t.long ∙ soft_length_product _ _ t.shape t.few }
