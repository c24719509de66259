-- `engine::gains::climb` meets its contract: the last stage where no other is left, else one stage, and the others from
-- there. t stages are left; the climb that is called has fewer.
-- Assumes nothing.
use Prim.Native.Nat.{ℕ, suc, ◌-◌, ◌*◌, ◌≤◌}
use native.Mathlib.Omega.{arith}
use mathlib.Core.Path.{◌≡◌, sym, ◌∙◌, subst}
use lib.ListN.{length}
use lib.Seq.{length-take-le}
use Rattle.range.proofs.Products.{times_least}
use Rattle.engine.proofs.Pieces.{front_written}
use Rattle.engine.proofs.Climbing.{wanted, none_left, some_left, climbing_last, climbing_done, climbing_room}
use Rattle.engine.proofs.Climbing.{climbing_next, climbing_returned}
use Rattle.engine.proofs.gains.+climb.Goals.{Else-d-eq0, After-stage}
use Rattle.engine.proofs.gains.+climb.Goals as goal

pub last-requires : goal.last-requires
last-requires t c = climbing_last _ _ _ _ _ _ (none_left c.args.d c.if-d-eq0.true c.requires)

pub returns-then-d-eq0 : goal.returns-then-d-eq0
returns-then-d-eq0 t c =
    let e : c.args.d ≡ 0 = c.if-d-eq0.true in
    let answer = wanted c.args.q c.args.half c.args.w c.args.first c.args.x.now c.args.before in
    subst (λ (k : ℕ). c.last.result ≡ answer k) (sym e)
    (climbing_done c.args.q c.args.half c.args.w c.args.first c.args.x.now c.args.y.now
    (none_left c.args.d e c.requires) c.args.before c.last.result c.last.ensures)

-- the next table fits the other area
room : {t : ℕ} (c : Else-d-eq0 t) → c.args.q * c.args.half * c.args.q * c.args.w ≤ length c.args.y.now
room c = climbing_room _ _ _ _ _ _ _ (some_left c.args.d c.if-d-eq0.false c.requires)

pub overflow_mul-q-2 : goal.overflow_mul-q-2
overflow_mul-q-2 t c =
    omega (
      arith,
      room (goal.at.overflow_mul-q-2 t c).Else-d-eq0,
      times_least (c.args.q * c.args.half * c.args.q) c.args.w c.requires.runs.run,
    )

pub overflow_mul-q-3 : goal.overflow_mul-q-3
overflow_mul-q-3 t c = omega (arith, room (goal.at.overflow_mul-q-3 t c).Else-d-eq0)

pub slice_bounds-stage-end : goal.slice_bounds-stage-end
slice_bounds-stage-end t c = room (goal.at.slice_bounds-stage-end t c).Else-d-eq0

pub slice_bounds-stage-end-2 : goal.slice_bounds-stage-end-2
slice_bounds-stage-end-2 t c = sym (length-take-le _ _ (room (goal.at.slice_bounds-stage-end-2 t c).Else-d-eq0))

pub stage-requires : goal.stage-requires
stage-requires t c = length-take-le _ _ (room (goal.at.stage-requires t c).Else-d-eq0)

-- the next table stands at the front of the other area
pub climb-requires : goal.climb-requires
climb-requires t c =
    let some = some_left c.args.d c.if-d-eq0.false c.requires in
    let fits = room (goal.at.climb-requires t c).Else-d-eq0 in
    let next = front_written _ c.args.y.now c.stage.new.to fits (c.stage.auto.to ∙ length-take-le _ _ fits) in
    (omega arith, climbing_next _ _ _ _ _ _ _ some _ (next.0 ∙ c.stage.ensures) next.1)

pub returns : goal.returns
returns t c =
    let answer = wanted c.args.q c.args.half c.args.w c.args.first c.args.x.now c.args.before in
    let some = some_left c.args.d c.if-d-eq0.false c.requires in
    let fits = room (goal.at.returns t c).Else-d-eq0 in
    let next = front_written _ c.args.y.now c.stage.new.to fits (c.stage.auto.to ∙ length-take-le _ _ fits) in
    let e : suc (c.args.d - 1) ≡ c.args.d = omega (arith, c.if-d-eq0.false) in
    subst (λ (k : ℕ). c.climb.result ≡ answer k) e
    (climbing_returned (c.args.d - 1) c.args.q c.args.half c.args.w c.args.first c.args.x.now c.args.y.now
    some _ (next.0 ∙ c.stage.ensures) c.args.before c.climb.result c.climb.ensures)
