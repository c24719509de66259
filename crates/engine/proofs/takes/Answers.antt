-- `engine::takes` meets its contract: the tests in the order of the definition.
-- Assumes nothing.
use Prim.Native.Nat.{◌*◌}
use native.Mathlib.Omega.{arith}
use mathlib.Core.Path.{◌≡◌, sym, ◌∙◌}
use mathlib.Core.Bool.{true}
use borrow.Author.Tests.{le-leb, lt-leb, ne_eqb}
use Rattle.range.proofs.Tests.{and_of_true, and_of_false}
use Rattle.rules.specs.Shape.{in_shape, phases, carriers}
use Rattle.rules.proofs.Range.{in_shape_range}
use Rattle.shape.proofs.Powers.{power_is}
use Rattle.engine.specs.Search.{accepts}
use Rattle.engine.proofs.Accepting.{accepts_small, small_list, table_size}
use Rattle.engine.proofs.takes.Goals.{After-power, Then-in_shape}
use Rattle.engine.proofs.takes.Goals as goal

ranged : (c : Then-in_shape) → in_shape c.args.h c.args.m ≡ true
ranged c =
    sym c.in_shape.ensures ∙ c.if-in_shape.true

-- what the length is held against
size_is : (c : After-power) → c.power.result ≡ phases c.args.h * carriers c.args.m
size_is c =
    let ranged : in_shape c.args.h c.args.m ≡ true = sym c.in_shape.ensures ∙ c.if-in_shape.true in
    let r = in_shape_range c.args.h c.args.m ranged in
    c.power.ensures ∙ power_is _ (omega (arith, r.h_most, r.m_most)) ∙ sym (table_size c.args.h c.args.m)

pub returns-then-gains-power : goal.returns-then-gains-power
returns-then-gains-power c =
    c.small.ensures ∙ small_list c.args.gains.now
    ∙ accepts_small _ _ _ (ranged (goal.at.returns-then-gains-power c).Then-in_shape) c.if-h-le-GREATEST_DECODED.true
    (c.if-gains-power.true ∙ size_is (goal.at.returns-then-gains-power c).After-power)

pub returns-else-gains-power : goal.returns-else-gains-power
unfolding accepts
returns-else-gains-power c =
    rw (size_is (goal.at.returns-else-gains-power c).After-power)
    (and_of_false _ _ (ne_eqb _ _
    (λ e. c.if-gains-power.false (e ∙ sym (size_is (goal.at.returns-else-gains-power c).After-power))))
    ∙ and_of_true _ _ (le-leb _ _ c.if-h-le-GREATEST_DECODED.true)
    ∙ and_of_true _ _ (ranged (goal.at.returns-else-gains-power c).Then-in_shape))

pub returns-else-h-le-GREATEST_DECODED : goal.returns-else-h-le-GREATEST_DECODED
unfolding accepts
returns-else-h-le-GREATEST_DECODED c =
    and_of_false _ _ (lt-leb _ _ c.if-h-le-GREATEST_DECODED.false)
    ∙ and_of_true _ _ (ranged (goal.at.returns-else-h-le-GREATEST_DECODED c).Then-in_shape)

pub returns-else-in_shape : goal.returns-else-in_shape
unfolding accepts
returns-else-in_shape c =
    let told = c.in_shape.ensures in
    told ∙ and_of_false _ _ (sym told ∙ c.if-in_shape.false)
