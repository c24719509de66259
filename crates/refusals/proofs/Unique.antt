-- Only one answer to each question keeps its promise, which is an equation of what is told.
-- Assumes nothing.
use mathlib.Core.Path.{◌≡◌, sym, ◌∙◌}
use Rattle.rules.specs.Outcome.{Outcome}
use Rattle.kinds.specs.Refusals.{Judged, judged_told}
use Rattle.kinds.proofs.RefusalLaws.{judged_told_inj}

pub judged_unique : (o : Outcome (Unit {0})) (r s : Judged) → judged_told r ≡ o → judged_told s ≡ o → r ≡ s
judged_unique o r s p q = judged_told_inj r s (p ∙ sym q)
