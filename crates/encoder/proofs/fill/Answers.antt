-- `encoder::fill` meets its contract: the form holds the generator, the path's steps and the label's coefficients.
-- In order: the steps; the goals.  Assumes nothing.
use Prim.Native.Nat.{ℕ, ◌*◌, ◌≤◌, ◌<◌}
use native.Mathlib.Nat.{mul-le-mul}
use native.Mathlib.Omega.{arith}
use mathlib.Core.Path.{◌≡◌, sym, ◌∙◌, ap, subst}
use mathlib.Core.List.{List}
use lib.ListN.{get_or}
use Rattle.rules.specs.Shape.{greatest_h, half_turn, paths_in_use}
use Rattle.rules.specs.Label.{label_path}
use Rattle.rules.proofs.Range.{InRange, in_shape_range, phases_most, phases_by_two, carriers_most}
use Rattle.steps.specs.PathSteps.{path_row}
use Rattle.steps.proofs.PathTable.{steps_of_used}
use Rattle.words.proofs.Labels.{label_path_lt}
use Rattle.encoder.specs.Arrays.{cell}
use Rattle.encoder.proofs.Matrix.{generator_rows_le}
use Rattle.encoder.proofs.Formula.{row_step_le, row_coefficient_lt, symbols_are}
use Rattle.encoder.proofs.fill.Goals.{After-steps-steps}
use Rattle.encoder.proofs.fill.Goals as goal

module _ (c : After-steps-steps) where
  range : InRange c.args.shape.h c.args.shape.m
  range = in_shape_range c.args.shape.h c.args.shape.m c.args.shape.in_range

  path_used : c.split.result.path.0 < paths_in_use c.args.shape.m
  path_used = omega (
    arith,
    c.split.ensures.path,
    label_path_lt c.args.shape.h c.args.shape.m c.args.label c.requires.label_bound,
  )

  walked : c.steps-steps.result ≡ path_row c.args.shape.m (label_path c.args.shape.h c.args.shape.m c.args.label)
  walked =
      c.steps-steps.ensures ∙ steps_of_used _ _ range.m_least range.m_most path_used
      ∙ ap (path_row c.args.shape.m) c.split.ensures.path

pub invariant_of-form : goal.invariant_of-form
invariant_of-form c =
    let t = (goal.at.invariant_of-form c).After-steps-steps in
    let r = range t in
    record {
      digits = λ k i h₁ h₂. subst (λ (g : List (List ℕ)). cell g k i ≤ 1) (sym c.generator-generator.ensures)
          (generator_rows_le c.args.shape.m k i (omega (arith, h₁, r.m_most)) h₂);
      small = λ k h₁. omega (
        arith,
        c.split.ensures.rows k h₁,
        row_coefficient_lt c.args.shape.h c.args.shape.m c.args.label k,
        phases_most _ _ r,
      );
      rows = λ k h₁. subst (λ (p : List ℕ). get_or p k 0 ≤ c.args.shape.m) (sym (walked t))
          (row_step_le c.args.shape.h c.args.shape.m c.args.label r c.requires.label_bound k h₁);
      lifted = mul-le-mul {n₁ = c.args.lift} {m₁ = c.half_turn.result} {n₂ = 1} {m₂ = half_turn greatest_h}
          c.requires.lift_bound (omega (arith, c.half_turn.ensures, phases_by_two _ r.h_least, phases_most _ _ r));
    }

pub write-requires : goal.write-requires
write-requires c =
    omega (
      arith,
      c.requires.out_len,
      carriers_most c.args.shape.h c.args.shape.m (range (goal.at.write-requires c).After-steps-steps),
    )

pub returns : goal.returns
returns c =
    let t = (goal.at.returns c).After-steps-steps in
    c.write.ensures
    ∙ symbols_are c.args.label c.args.lift _
    (record {
      used = c.requires.label_bound;
      generated = c.generator-generator.ensures;
      walked = walked t;
      split = c.split.ensures.rows;
      turned = ap (λ (x : ℕ). c.args.lift * x) c.half_turn.ensures;
    })
    _ c.requires.out_len
