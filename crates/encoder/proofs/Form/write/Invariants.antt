-- `encoder::Form::write` meets its contract: place after place it writes the symbol.
-- Invariant: the first places hold their symbols, the others are as they were.  Assumes nothing.
use mathlib.Core.Path.{◌≡◌}
use Rattle.range.specs.Below.{filled}
use Rattle.encoder.specs.Forms.{symbol_in}
use Rattle.encoder.proofs.Form.write.Given as goal

abbrev pub invariant-loop-place : goal.invariant-loop-place
invariant-loop-place l = l.out ≡ filled l.place (symbol_in l.self) l.initial.out
