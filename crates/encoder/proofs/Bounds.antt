-- Bounds on what the encoder adds up, so that no sum of the code wraps.
-- In order: one term of the sum over rows, the sum; one link, the sum over links; the row of the first step.
-- Assumes nothing.
use Prim.Native.Nat.{ℕ, ◌+◌, ◌-◌, ◌*◌, ◌≤◌, ◌<◌}
use native.Mathlib.Nat.{mul-le-mul, le_refl}
use native.Mathlib.Omega.{arith}
use lib.ListN.{get_or}
use Rattle.range.specs.Below.{sum_below}
use Rattle.range.proofs.Sums.{sum_below_le}
use Rattle.rules.specs.Shape.{greatest_m, carriers, greatest_h, phases, half_turn}
use Rattle.rules.proofs.Range.{InRange, in_shape_range, phases_by_two, phases_most}
use Rattle.encoder.specs.declared.Form.{Form}
use Rattle.encoder.specs.Arrays.{cell, linear_of, links_of}
use Rattle.encoder.specs.Forms.{term_at, step_at, link_at, linear_in, links_in}

-- the greatest term, sum of terms and sum of links of a shape in range
abbrev pub most_term : ℕ
most_term = phases greatest_h - 1

abbrev pub most_linear : ℕ
most_linear = (greatest_m + 1) * most_term

abbrev pub most_links : ℕ
most_links = greatest_m - 1

-- the shape of a form
pub range_of : (f : Form) → InRange f.shape.h f.shape.m
range_of f = in_shape_range f.shape.h f.shape.m f.shape.in_range

pub half_turn_most : (f : Form) → half_turn f.shape.h ≤ half_turn greatest_h
half_turn_most f =
    let range = range_of f in
    omega (arith, phases_by_two f.shape.h range.h_least, phases_most f.shape.h f.shape.m range)

module _ (f : Form) (i : ℕ) (inside : i < carriers greatest_m) where
  pub term_le : (r : ℕ) → r ≤ f.shape.m → term_at f i r ≤ most_term
  term_le r h =
      mul-le-mul {n₁ = get_or f.coefficients r 0} {m₁ = cell f.generator r i} {n₂ = most_term} {m₂ = 1}
      (omega (arith, f.small r h)) (f.digits r i h inside)

  pub terms_le : (r : ℕ) → r ≤ f.shape.m + 1 → sum_below r (term_at f i) ≤ r * most_term
  terms_le r h = sum_below_le r most_term (term_at f i) (λ k l. term_le k (omega arith))

  pub linear_in_le : linear_in f i ≤ most_linear
  unfolding linear_of
  linear_in_le = omega (arith, terms_le (f.shape.m + 1) (le_refl (f.shape.m + 1)), (range_of f).m_most)

  pub step_le : (k : ℕ) → k < f.shape.m → step_at f i k ≤ 1
  step_le k h = f.digits (get_or f.steps k 0) i (f.rows k h) inside

  pub link_le : (k : ℕ) → k < f.shape.m - 1 → link_at f i k ≤ 1
  link_le k h =
      mul-le-mul {n₁ = step_at f i k} {m₁ = step_at f i (k + 1)} {n₂ = 1} {m₂ = 1}
      (step_le k (omega arith)) (step_le (k + 1) (omega arith))

  pub links_le : (n : ℕ) → n ≤ f.shape.m - 1 → sum_below n (link_at f i) ≤ n * 1
  links_le n h = sum_below_le n 1 (link_at f i) (λ k l. link_le k (omega arith))

  pub links_in_le : links_in f i ≤ most_links
  unfolding links_of
  links_in_le = omega (arith, links_le (f.shape.m - 1) (le_refl (f.shape.m - 1)), (range_of f).m_most)

  pub first_le : step_at f i 0 ≤ 1
  first_le = step_le 0 (omega (arith, (range_of f).m_least))
