-- `shape::message_of` meets its contract: each coefficient stands in plain binary, so the two numbers are the same.
-- Assumes nothing.
use mathlib.Core.Path.{refl}
use Rattle.rules.specs.Label.{message_of}
use Rattle.shape.proofs.message_of.Goals as goal

pub returns : goal.returns
unfolding message_of
returns c = (λ _. refl, λ _. refl)
