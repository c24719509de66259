-- `steps::in_use` meets its contract: for an m in range the paths in use fit 64 bits.
-- Assumes nothing.
use mathlib.Core.Path.{refl, sym, ◌∙◌}
use Rattle.shape.proofs.Powers.{power_uses}
use Rattle.steps.proofs.in_use.Goals as goal

pub returns-then-in_m : goal.returns-then-in_m
returns-then-in_m c =
    rw (c.from.ensures, c.power.ensures ∙ power_uses _ _ c.path_bits.ensures, sym c.if-in_m.ensures) refl
