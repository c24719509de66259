-- `shape::label_of` meets its contract: each coefficient stands in plain binary, so the two numbers are the same.
-- Assumes nothing.
use mathlib.Core.Path.{refl}
use Rattle.rules.specs.Label.{label_of}
use Rattle.shape.proofs.label_of.Goals as goal

pub returns : goal.returns
unfolding label_of
returns c = (λ _. refl, λ _. refl)
