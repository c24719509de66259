-- `Candidate::low` meets its contract: each turn takes one coefficient more, c_1 first.
-- Assumes nothing.
use Prim.Native.Nat.{ℕ, ◌+◌, ◌-◌, ◌*◌, ◌^◌, ◌≤◌}
use native.Mathlib.Omega.{arith}
use mathlib.Core.Path.{◌≡◌, refl, ◌∙◌, ap₂}
use Rattle.rules.specs.Shape.{greatest_h, phases, most_coefficient_bits}
use Rattle.rules.proofs.Range.{InRange, in_shape_range, phases_most}
use Rattle.shape.proofs.Powers.{power_is}
use Rattle.places.proofs.Digits.{one_lt}
use Rattle.reader.specs.Shown.{shown_up_to, low_of}
use Rattle.reader.proofs.ShownLaws.{shown_lt, shown_of, shown_scaled, shown_up_to_next, first_lt}
use Rattle.reader.proofs.Candidate.low.Goals.{After-power-at, After-phases-q, At-loop-k}
use Rattle.reader.proofs.Candidate.low.Goals as goal

ranged : (c : After-phases-q) → InRange c.args.self.now.shape.h c.args.self.now.shape.m
ranged c = in_shape_range _ _ c.args.self.now.symbols.shape

-- what is read so far, one base up, fits easily
small : (c : At-loop-k) → c.loop-k.number * c.phases-q.result ≤ 2 ^ most_coefficient_bits * phases greatest_h
small c =
    shown_scaled _ _ _ c.args.self.now.symbols c.loop-k.k _ _ c.loop-k.auto.k-end c.loop-k.invariant
    c.phases-q.ensures

-- the place of the next coefficient
place : (c : After-power-at) → c.power-at.result ≡ 2 ^ (c.args.self.now.shape.m - (c.loop-k.k + 1))
place c =
    let range = in_shape_range c.args.self.now.shape.h c.args.self.now.shape.m c.args.self.now.symbols.shape in
    let turned : c.args.self.now.shape.m - 1 - c.loop-k.k ≡ c.args.self.now.shape.m - (c.loop-k.k + 1) = omega arith in
    rw turned at (c.power-at.ensures ∙ power_is _ (omega (arith, range.m_most)))

pub loop-k-init : goal.loop-k-init
unfolding shown_up_to
loop-k-init c = refl

pub overflow_mul-number : goal.overflow_mul-number
overflow_mul-number c = omega (arith, small (goal.at.overflow_mul-number c).At-loop-k)

pub bounds-self-at : goal.bounds-self-at
bounds-self-at c =
    let symbols = c.args.self.now.symbols in
    let inside = one_lt c.args.self.now.shape.m (c.loop-k.k + 1) (omega arith) (omega (arith, c.loop-k-test.true)) in
    omega (arith, place (goal.at.bounds-self-at c).After-power-at, symbols.long, inside)

pub overflow_add-number : goal.overflow_add-number
overflow_add-number c =
    let start = (goal.at.overflow_add-number c).After-phases-q in
    let next = shown_of _ c.args.self.now.shape.m _ (c.loop-k.k + 1) _ _ _ c.phases-q.ensures
    (place (goal.at.overflow_add-number c).After-power-at) c.minus.ensures in
    omega (
      arith,
      small (goal.at.overflow_add-number c).At-loop-k,
      next,
      shown_lt c.args.self.now.shape.h c.args.self.now.shape.m c.args.self.now.word.now (c.loop-k.k + 1),
      phases_most _ _ (ranged start),
    )

pub loop-k-preserved : goal.loop-k-preserved
loop-k-preserved c =
    ap₂ (λ (x y : ℕ). x + y)
    (ap₂ (λ (x y : ℕ). x * y) c.loop-k.invariant c.phases-q.ensures)
    (shown_of _ c.args.self.now.shape.m _ (c.loop-k.k + 1) _ _ _ c.phases-q.ensures
    (place (goal.at.loop-k-preserved c).After-power-at)
    c.minus.ensures)
    ∙ shown_up_to_next _ _ _ _

pub overflow_mul-result : goal.overflow_mul-result
overflow_mul-result c = omega (arith, small (goal.at.overflow_mul-result c).At-loop-k)

pub overflow_add-result : goal.overflow_add-result
overflow_add-result c =
    let symbols = c.args.self.now.symbols in
    omega (
      arith,
      small (goal.at.overflow_add-result c).At-loop-k,
      phases_most _ _ (ranged (goal.at.overflow_add-result c).After-phases-q),
      first_lt _ _ _ symbols,
    )

pub returns : goal.returns
unfolding low_of
returns c =
    let all : c.loop-k.k ≡ c.args.self.now.shape.m = omega arith in
    rw (c.from.ensures, c.phases-q.ensures, c.loop-k.invariant, all)
