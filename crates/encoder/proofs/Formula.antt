-- What the encoder combines at a place is the formula of 01: generator rows, path steps and coefficients, modulo 2^h.
-- In order: links as a sum; the steps as code holds them, and their digits; each part of the symbol; the symbol; a
-- coefficient is small; a form of a label, and its symbols; the two lifts.  Assumes nothing.
use Prim.Native.Nat.{ℕ, zero, suc, ◌+◌, ◌-◌, ◌*◌, ◌%◌, ◌≤◌, ◌<◌}
use native.Mathlib.Nat.{lt_of_lt_of_le, suc-ne-zero, suc_inj, one-mul}
use native.Mathlib.Numerals.{add-one}
use native.Mathlib.Omega.{arith}
use mathlib.Core.Path.{◌≡◌, refl, sym, ◌∙◌, ap, ap₂}
use mathlib.Core.List.{List, [], ◌∷◌}
use lib.ListN.{length, get_or, replicate}
use Rattle.range.specs.Below.{sum_below, list_below}
use Rattle.range.proofs.Sums.{sum_below_cong}
use Rattle.range.proofs.Lists.{list_below_cong}
use Rattle.range.proofs.Filled.{filled_at}
use Rattle.rules.specs.Shape.{greatest_m, phases, half_turn, carriers}
use Rattle.rules.specs.Place.{digit, generator_at}
use Rattle.rules.specs.Path.{IsPath, path_at, head_of}
use Rattle.rules.specs.Label.{labels, label_path, label_of, row_coefficient}
use Rattle.rules.specs.Word.{links, word_at, partner_at, word_of, partner_of}
use Rattle.rules.proofs.Range.{InRange, range_in_m, phases_by_two, carriers_most}
use Rattle.paths.proofs.Members.{is_path_in}
use Rattle.words.proofs.Labels.{coefficient_lt, constant_lt}
use Rattle.words.proofs.Forms.{form_at_rows, partner_at_form}
use Rattle.words.proofs.Used.{label_path_is_path}
use Rattle.words.proofs.Partners.{head_of_at}
use Rattle.steps.specs.PathSteps.{path_row}
use Rattle.encoder.specs.declared.Form.{Form}
use Rattle.encoder.specs.Arrays.{generator_rows, cell, linear_of, links_of, symbol_of, lifted_at}
use Rattle.encoder.specs.Forms.{symbol_in}
use Rattle.encoder.proofs.Bounds.{range_of}
use Rattle.encoder.proofs.Matrix.{generator_at_digit, generator_rows_at}

-- the links of a path as a sum over its steps
links_cons : (x : ℕ → ℕ) (a : ℕ) (p : List ℕ) →
    links x (a ∷ p) ≡ sum_below (length p) (λ k. x (get_or (a ∷ p) k 0) * x (get_or p k 0))
unfolding links sum_below
links_cons x a [] = refl
links_cons x a (b ∷ p) = ap (λ (s : ℕ). x a * x b + s) (links_cons x b p)

links_sum : (x : ℕ → ℕ) (n : ℕ) (p : List ℕ) → length p ≡ suc n →
    links x p ≡ sum_below n (λ k. x (get_or p k 0) * x (get_or p (k + 1) 0))
links_sum x n [] e = absurd (suc-ne-zero n (sym e))
links_sum x n (a ∷ p) e =
    links_cons x a p
    ∙ ap (λ (k : ℕ). sum_below k (λ j. x (get_or (a ∷ p) j 0) * x (get_or p j 0))) (suc_inj e)
    ∙ sum_below_cong n (λ j. x (get_or (a ∷ p) j 0) * x (get_or p j 0))
    (λ k. x (get_or (a ∷ p) k 0) * x (get_or (a ∷ p) (k + 1) 0)) (λ k _. rw (add-one k))

module _ (h m l : ℕ) (range : InRange h m) (used : l < labels h m) where
  abbrev path : List ℕ
  path = path_at m (label_path h m l)

  path_is : IsPath m path
  path_is = label_path_is_path h m l (range_in_m h m range) used

  -- the steps as code holds them
  row_step : (k : ℕ) → k < m → get_or (path_row m (label_path h m l)) k 0 ≡ get_or path k 0
  unfolding path_row
  row_step k h₁ = filled_at m (λ j. get_or path j 0) (replicate greatest_m 0) k 0 h₁

  step_in : (k : ℕ) → k < m → (1 ≤ get_or path k 0) × (get_or path k 0 ≤ m)
  step_in k h₁ = is_path_in m path path_is k (omega (arith, path_is.long))

  -- each names a row
  pub row_step_le : (k : ℕ) → k < m → get_or (path_row m (label_path h m l)) k 0 ≤ m
  row_step_le k h₁ = omega (arith, row_step k h₁, (step_in k h₁).1)

  module _ (i : ℕ) (inside : i < carriers m) where
    in_row : i < carriers greatest_m
    in_row = lt_of_lt_of_le inside (carriers_most h m range)

    -- the generator's row at a step is the step's digit
    step_digit : (k : ℕ) → k < m →
        cell (generator_rows m) (get_or (path_row m (label_path h m l)) k 0) i ≡ digit m i (get_or path k 0)
    step_digit k h₁ =
        ap (λ (r : ℕ). cell (generator_rows m) r i) (row_step k h₁)
        ∙ generator_rows_at m (get_or path k 0) i (omega (arith, (step_in k h₁).1, range.m_most)) in_row
        ∙ generator_at_digit m (get_or path k 0) i (step_in k h₁).0

    links_is : links_of (generator_rows m) (path_row m (label_path h m l)) m i ≡ links (digit m i) path
    unfolding links_of
    links_is =
        sum_below_cong (m - 1) _ (λ k. digit m i (get_or path k 0) * digit m i (get_or path (k + 1) 0))
        (λ k h₁. ap₂ (λ (x y : ℕ). x * y) (step_digit k (omega arith)) (step_digit (k + 1) (omega arith)))
        ∙ sym (links_sum (digit m i) (m - 1) path (omega (arith, path_is.long, range.m_least)))

    first_is : cell (generator_rows m) (get_or (path_row m (label_path h m l)) 0 0) i ≡ digit m i (head_of path)
    first_is = step_digit 0 (omega (arith, range.m_least)) ∙ ap (digit m i) (sym (head_of_at path))

    module _ (c : List ℕ) (rows : (r : ℕ) → r ≤ m → get_or c r 0 ≡ row_coefficient h m l r) where
      linear_is : linear_of (generator_rows m) c m i
          ≡ sum_below (m + 1) (λ r. row_coefficient h m l r * generator_at m r i)
      unfolding linear_of
      linear_is =
          sum_below_cong (m + 1) _ (λ r. row_coefficient h m l r * generator_at m r i)
          (λ r h₁. ap₂ (λ (x y : ℕ). x * y) (rows r (omega arith))
          (generator_rows_at m r i (omega (arith, range.m_most)) in_row))

      pub symbol_is : (s : ℕ) →
          symbol_of (generator_rows m) (path_row m (label_path h m l)) c m (phases h) s i ≡ lifted_at h m l s i
      unfolding symbol_of lifted_at
      symbol_is s = rw (form_at_rows h m l i, phases_by_two h range.h_least, links_is, linear_is, first_is)

pub row_coefficient_lt : (h m l r : ℕ) → row_coefficient h m l r < phases h
unfolding row_coefficient
row_coefficient_lt h m l zero = constant_lt h l
row_coefficient_lt h m l (suc r) = coefficient_lt h m l (suc r)

-- a form of label l, and of so many half turns
pub record IsFormOf (l lift : ℕ) (f : Form) : Type 0 where
  pub used : l < labels f.shape.h f.shape.m
  pub generated : f.generator ≡ generator_rows f.shape.m
  pub walked : f.steps ≡ path_row f.shape.m (label_path f.shape.h f.shape.m l)
  pub split : (r : ℕ) → r ≤ f.shape.m → get_or f.coefficients r 0 ≡ row_coefficient f.shape.h f.shape.m l r
  pub turned : f.lift ≡ lift * half_turn f.shape.h

module _ (l lift : ℕ) (f : Form) (of : IsFormOf l lift f) where
  abbrev lifted : ℕ → ℕ → ℕ
  lifted = lifted_at f.shape.h f.shape.m l

  -- place by place, by the law of the arrays
  symbol_in_is : (i : ℕ) → i < carriers f.shape.m → symbol_in f i ≡ lifted f.lift i
  unfolding symbol_in
  symbol_in_is i inside =
      ap₂ (λ (g : List (List ℕ)) (p : List ℕ). symbol_of g p f.coefficients f.shape.m (phases f.shape.h) f.lift i)
      of.generated of.walked
      ∙ symbol_is f.shape.h f.shape.m l (range_of f) of.used i inside f.coefficients of.split f.lift

  -- so its symbols are those of the lifted word
  pub symbols_are : (n : ℕ) → n ≡ carriers f.shape.m →
      list_below n (symbol_in f) ≡ list_below (carriers f.shape.m) (lifted (lift * half_turn f.shape.h))
  symbols_are n e =
      rw e (list_below_cong (carriers f.shape.m) (symbol_in f) (lifted f.lift) symbol_in_is)
      ∙ ap (λ (s : ℕ). list_below (carriers f.shape.m) (lifted s)) of.turned

-- the two lifts: the word and its partner
lifted_at_zero : (h m l i : ℕ) → lifted_at h m l (0 * half_turn h) i ≡ word_at h m l i
unfolding lifted_at word_at
lifted_at_zero h m l i = ap (λ (x : ℕ). x % phases h) (omega arith)

lifted_at_one : (h m l i : ℕ) → lifted_at h m l (1 * half_turn h) i ≡ partner_at h m l i
unfolding lifted_at
lifted_at_one h m l i = rw (one-mul (half_turn h)) (sym (partner_at_form h m l i))

pub lifted_word : (h m g : ℕ) →
    list_below (carriers m) (lifted_at h m (label_of h m g) (0 * half_turn h)) ≡ word_of h m g
unfolding word_of
lifted_word h m g = list_below_cong (carriers m) _ _ (λ i _. lifted_at_zero h m (label_of h m g) i)

pub lifted_partner : (h m g : ℕ) →
    list_below (carriers m) (lifted_at h m (label_of h m g) (1 * half_turn h)) ≡ partner_of h m g
unfolding partner_of
lifted_partner h m g = list_below_cong (carriers m) _ _ (λ i _. lifted_at_one h m (label_of h m g) i)
