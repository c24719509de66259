-- `transform::pass` meets its contract: block after block is written.
-- Invariant: a block begins at p, and all before it is written.
-- Assumes nothing.
use Prim.Native.Nat.{◌+◌, ◌*◌, ◌≤◌}
use native.Mathlib.Omega.{arith}
use mathlib.Core.Path.{◌≡◌}
use Rattle.std.proofs.Common.{rules}
use Rattle.range.proofs.Fills.{fills_trans, fills_end}
use Rattle.transform.proofs.Halves.{start_zero, start_next, start_le}
use Rattle.transform.proofs.pass.Goals as goal

pub overflow_mul-p-step : goal.overflow_mul-p-step
overflow_mul-p-step g c =
    let one : 0 + g.row.S + g.row.S ≤ c.args.n =
    start_le _ 0 _ (start_zero g.row.S) c.requires.readable.blocks c.requires.n_least in
    search rules

pub block-requires : goal.block-requires
block-requires g c =
    let inside : c.loop-p.p + g.row.S + g.row.S ≤ c.args.n =
    start_le _ _ _ c.loop-p.invariant.0 c.requires.readable.blocks c.loop-p-test.true in
    record {
      begins = c.loop-p.invariant.0;
      inside = omega (arith, inside, c.requires.readable.long);
      fits = omega (arith, inside, c.requires.n_in_bounds, c.loop-p.invariant.2.sized);
      small = λ i l. c.requires.readable.small i (omega (arith, inside));
    }

pub loop-p-preserved : goal.loop-p-preserved
loop-p-preserved g c =
    let next : c.loop-p.p + 2 * g.row.S ≡ c.loop-p.p + g.row.S + g.row.S = omega arith in
    let inside = start_le _ _ _ c.loop-p.invariant.0 c.requires.readable.blocks c.loop-p-test.true in
    rw next
    (start_next _ _ c.loop-p.invariant.0, inside, fills_trans c.loop-p.invariant.2 c.block.ensures)

pub returns : goal.returns
returns g c =
    fills_end _ _ _ c.loop-p.p _ c.loop-p.invariant.2 (omega (arith, c.loop-p.invariant.1, c.loop-p-test.false))

pub returns-2 : goal.returns-2
returns-2 g c =
    let inside = start_le _ _ _ c.loop-p.invariant.0 c.requires.readable.blocks c.loop-p-test.true in
    fills_end _ _ _ (c.loop-p.p + g.row.S + g.row.S) _ (fills_trans c.loop-p.invariant.2 c.block.ensures)
    (omega (arith, inside))
