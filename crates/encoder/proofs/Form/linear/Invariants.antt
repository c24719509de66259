-- `encoder::Form::linear` meets its contract: each turn adds one row.
-- Invariant: the sum is that of the rows gone through.  Assumes nothing.
use mathlib.Core.Path.{◌≡◌}
use lib.ListN.{length}
use Rattle.range.specs.Below.{sum_below}
use Rattle.encoder.specs.Forms.{term_at}
use Rattle.encoder.proofs.Form.linear.Given as goal

abbrev pub invariant-loop-c : goal.invariant-loop-c
invariant-loop-c l = l.sum ≡ sum_below (length l.yielded) (term_at l.self l.at.place)
