-- `engine::tables::Table::pass` meets its contract: the runs of t, one t after the other.
-- Assumes nothing.
use Rattle.std.proofs.Common.{ℕ, ◌+◌, ◌*◌, ◌≤◌, ◌≡◌, ◌∙◌, length, arith, ap}
use Rattle.totals.specs.Climb.{climbed}
use Rattle.range.proofs.Products.{times_within}
use Rattle.engine.proofs.Pieces.{length-part, written_next, written_all}
use Rattle.engine.proofs.tables.Table.pass.Goals.{In-loop-t}
use Rattle.engine.proofs.tables.Table.pass.Goals as goal

-- the runs of t lie in the table that is written
room : (c : In-loop-t) → (c.loop-t.t + 1) * (c.args.self.now.q * c.args.w) ≤ length c.args.to.now
room c =
    let table = c.args.self.now in
    omega (
      arith,
      times_within c.loop-t.t (table.q * table.half) (table.q * c.args.w) c.loop-t-test.true,
      c.requires.1,
    )

pub overflow_mul-t : goal.overflow_mul-t
overflow_mul-t c = omega (arith, room (goal.at.overflow_mul-t c).In-loop-t)

pub overflow_mul-t-in-loop-t : goal.overflow_mul-t-in-loop-t
overflow_mul-t-in-loop-t c = omega (arith, room (goal.at.overflow_mul-t-in-loop-t c).In-loop-t)

pub offset_bounds-to-t : goal.offset_bounds-to-t
offset_bounds-to-t c = omega (arith, room (goal.at.offset_bounds-to-t c).In-loop-t)

pub slice_bounds-fan-end : goal.slice_bounds-fan-end
slice_bounds-fan-end c =
    let bound = room (goal.at.slice_bounds-fan-end c).In-loop-t in
    omega (arith, bound, c.loop-t.auto.to)

pub loop-t-preserved : goal.loop-t-preserved
loop-t-preserved c =
    let at = c.loop-t in
    let table = c.args.self.now in
    let bound = room (goal.at.loop-t-preserved c).In-loop-t in
    written_next _ at.to c.fan.new.to _ (at.t * (table.q * c.args.w)) (table.q * c.args.w) _
    (omega (arith, bound, at.auto.to))
    (c.fan.auto.to ∙ length-part (at.t * (table.q * c.args.w)) _ (table.q * c.args.w) at.to (omega arith)
    (omega (arith, bound, at.auto.to)))
    (omega arith) at.invariant c.fan.ensures

pub returns : goal.returns
unfolding climbed
returns c =
    let at = c.loop-t in
    let table = c.args.self.now in
    let done : at.t ≡ table.q * table.half = omega (arith, at.auto.t-end, c.loop-t-test.false) in
    let all : at.t * (table.q * c.args.w) ≡ table.q * table.half * table.q * c.args.w =
    ap (λ (t : ℕ). t * (table.q * c.args.w)) done ∙ omega arith in
    written_all _ at.to _ (at.auto.to ∙ c.requires.1) (rw all at at.invariant)
