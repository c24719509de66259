-- `encoder::Form::symbol` meets its contract: the sums are small, so nothing wraps before the remainder is taken.
-- Assumes nothing.
use Prim.Native.Nat.{◌*◌, ◌≤◌}
use native.Mathlib.Nat.{mul-le-mul}
use native.Mathlib.Omega.{arith}
use Rattle.rules.specs.Shape.{greatest_h, half_turn}
use Rattle.rules.proofs.Range.{phases_by_two}
use Rattle.encoder.specs.Arrays.{symbol_of}
use Rattle.encoder.specs.Forms.{symbol_in}
use Rattle.encoder.proofs.Bounds.{range_of, half_turn_most, linear_in_le, links_in_le, first_le}
use Rattle.encoder.proofs.Bounds.{most_linear, most_links}
use Rattle.encoder.proofs.Form.symbol.Goals.{After-digit-first}
use Rattle.encoder.proofs.Form.symbol.Goals as goal

-- the three summands
small : (c : After-digit-first) →
    (c.half_turn-half.result * c.links-links.result ≤ half_turn greatest_h * most_links)
    × (c.linear-linear.result ≤ most_linear)
    × (c.args.self.now.lift * c.digit-first.result ≤ half_turn greatest_h)
small c =
    let f = c.args.self.now in
    let i = c.args.at.place in
    let inside = c.args.at.inside in (
      mul-le-mul {n₂ = half_turn greatest_h} {m₂ = most_links}
          (omega (arith, c.half_turn-half.ensures, half_turn_most f))
          (omega (arith, c.links-links.ensures, links_in_le f i inside)),
      omega (arith, c.linear-linear.ensures, linear_in_le f i inside),
      mul-le-mul {n₂ = half_turn greatest_h} {m₂ = 1} f.lifted
          (omega (arith, c.digit-first.ensures, first_le f i inside)),
    )

pub overflow_mul-result : goal.overflow_mul-result
overflow_mul-result c = omega (arith, small (goal.at.overflow_mul-result c).After-digit-first)

pub overflow_add-result : goal.overflow_add-result
overflow_add-result c = omega (arith, small (goal.at.overflow_add-result c).After-digit-first)

pub overflow_add-result-2 : goal.overflow_add-result-2
overflow_add-result-2 c = omega (arith, small (goal.at.overflow_add-result-2 c).After-digit-first)

pub returns : goal.returns
unfolding symbol_in symbol_of
returns c =
    rw (
      phases_by_two c.args.self.now.shape.h (range_of c.args.self.now).h_least,
      c.half_turn-half.ensures,
      c.phases-q.ensures,
      c.links-links.ensures,
      c.linear-linear.ensures,
      c.digit-first.ensures,
    )
