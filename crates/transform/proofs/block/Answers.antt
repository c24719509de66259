-- `transform::block` meets its contract: a turn writes a place of each half, as the stage does.
-- Invariant: both halves are written up to i, and the rest outside the block stands.  Assumes nothing.
use Prim.Native.Nat.{◌+◌, ◌≤◌}
use native.Mathlib.Omega.{arith}
use mathlib.Core.Path.{sym, ◌∙◌}
use Rattle.range.specs.Signed.{entry}
use Rattle.transform.proofs.Bits.{sum_back, difference_back}
use Rattle.transform.proofs.Halves.{halved_none, halved_turn, halved_all, butterfly_first, butterfly_second}
use Rattle.transform.proofs.block.Goals as goal

pub loop-i-init : goal.loop-i-init
loop-i-init g c = halved_none _ _ _ _

pub loop-i-preserved : goal.loop-i-preserved
loop-i-preserved g c =
    let s = g.row.S in
    let i = c.loop-i.i in
    let from : c.args.p ≤ i = c.loop-i.auto.i in
    let y = entry c.args.from.now in
    let first = c.requires.small i (omega (arith, c.loop-i-test.true)) in
    let second = c.requires.small (i + s) (omega (arith, c.loop-i-test.true)) in
    halved_turn c.loop-i.invariant from c.loop-i-test.true c.requires.fits
    (sum_back (y i) (y (i + s)) first second
    ∙ sym (butterfly_first s c.args.p c.requires.begins y i from c.loop-i-test.true))
    (difference_back (y i) (y (i + s)) first second
    ∙ sym (butterfly_second s c.args.p c.requires.begins y i from c.loop-i-test.true))

pub returns : goal.returns
returns g c = halved_all c.loop-i.invariant c.requires.fits c.loop-i-test.false
