-- `encoder::Form::linear` meets its contract: each turn adds one row.
-- In order: the turn: its row, what it adds; the goals.  Assumes nothing.
use Prim.Native.Nat.{ℕ, ◌+◌, ◌*◌, ◌≤◌, ◌<◌}
use native.Mathlib.Omega.{arith}
use mathlib.Core.Path.{◌≡◌, refl, ◌∙◌, ap, ap₂}
use mathlib.Core.List.{List, []}
use lib.ListN.{length, get_or, take, length-take}
use lib.Seq.{get_or-take}
use Rattle.std.proofs.Common.{rules}
use Rattle.std.proofs.lemmas.List.{length_push}
use Rattle.std.proofs.lemmas.Slice.Zip.{zip_turn, zip_end}
use Rattle.range.specs.Below.{sum_below}
use Rattle.range.proofs.Sums.{sum_below_turn}
use Rattle.rules.specs.Shape.{greatest_m}
use Rattle.encoder.specs.declared.Form.{Form}
use Rattle.encoder.specs.Arrays.{linear_of}
use Rattle.encoder.specs.Forms.{term_at}
use Rattle.encoder.proofs.Bounds.{range_of, term_le, terms_le, most_term, most_linear}
use Rattle.encoder.proofs.Form.linear.Goals.{After-from}
use Rattle.encoder.proofs.Form.linear.Goals as goal

-- the coefficients in use
abbrev used : Form → List ℕ
used f = take (f.shape.m + 1) f.coefficients

module _ (c : After-from) where
  abbrev f : Form
  f = c.args.self.now

  abbrev i : ℕ
  i = c.args.at.place

  -- the row of this turn
  abbrev row : ℕ
  row = length c.loop-c.yielded

  turn : (row ≤ f.shape.m) × (c.in-Some.c.now * c.from.result ≡ term_at f i row)
  turn =
      let t = zip_turn (used f) f.generator c.loop-c.yielded _ c.loop-c.c-iterator c.next.new.self _
      (search rules) (search rules) c.loop-c.yielded_by _ c.in-Some.is c.next.ensures.steps in
      let inside : row < f.shape.m + 1 = omega (arith, t.0, length-take (f.shape.m + 1) f.coefficients) in (
        omega (arith, inside),
        ap₂ (λ (x y : ℕ). x * y) (t.2 0 ∙ get_or-take _ _ _ _ inside)
            (c.from.ensures ∙ ap (λ (r : List ℕ). get_or r i 0) (t.3 [])),
      )

  -- both what it adds and what was added before are small
  small : (c.in-Some.c.now * c.from.result ≤ most_term) × (c.loop-c.sum ≤ most_linear)
  small = (
    omega (arith, turn.1, term_le f i c.args.at.inside row turn.0),
    omega (
      arith,
      c.loop-c.invariant,
      terms_le f i c.args.at.inside row (omega (arith, turn.0)),
      turn.0,
      (range_of f).m_most,
    ),
  )

pub loop-c-init : goal.loop-c-init
unfolding sum_below
loop-c-init c = refl

pub overflow_add-sum : goal.overflow_add-sum
overflow_add-sum c = omega (arith, small (goal.at.overflow_add-sum c).After-from)

pub loop-c-preserved : goal.loop-c-preserved
loop-c-preserved c =
    rw length_push (sum_below_turn _ _ _ _ c.loop-c.invariant (turn (goal.at.loop-c-preserved c).After-from).1)

pub returns : goal.returns
unfolding linear_of
returns c =
    let f = c.args.self.now in
    let wide : length f.coefficients ≡ greatest_m + 1 = search rules in
    let high : length f.generator ≡ greatest_m + 1 = search rules in
    let e = zip_end (used f) f.generator c.loop-c.yielded _ c.loop-c.c-iterator c.next.new.self _
    (search rules) (search rules) c.loop-c.yielded_by c.in-None.is c.next.ensures.steps in
    c.loop-c.invariant ∙ ap (λ (n : ℕ). sum_below n (term_at f c.args.at.place))
    (omega (arith, e, wide, high, length-take (f.shape.m + 1) f.coefficients, (range_of f).m_most))
