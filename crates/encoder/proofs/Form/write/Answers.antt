-- `encoder::Form::write` meets its contract: place after place it writes the symbol.
-- Assumes nothing.
use Rattle.range.proofs.Filled.{filled_zero, filled_turn}
use Rattle.encoder.proofs.Form.write.Goals as goal

pub loop-place-init : goal.loop-place-init
loop-place-init c = filled_zero _ _

pub loop-place-preserved : goal.loop-place-preserved
loop-place-preserved c =
    filled_turn c.loop-place.place _ _ _ _ c.loop-place-test.true c.loop-place.invariant c.symbol.ensures
