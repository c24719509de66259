-- A label number taken apart by dividing, lowest coefficient first.
-- Defines:  Divided h m l q r rest c    c and the coefficients above r are taken; rest is what stands above them
-- In order: after the first division; after one more; after the last.  Assumes nothing.
use Prim.Native.Nat.{ℕ, zero, suc, ◌+◌, ◌-◌, ◌/◌, ◌%◌, ◌^◌, ◌≤◌, ◌<◌}
use native.Mathlib.Nat.{pow-suc, div-div-eq-div-mul, eq-or-lt_of_le, not-le_of_lt}
use native.Mathlib.Omega.{arith}
use mathlib.Core.Path.{◌≡◌, sym, ◌∙◌, ap}
use mathlib.Core.List.{List}
use mathlib.Core.Logic.{◌⊎◌, inl, inr}
use lib.ListN.{length, get_or, set, length-set}
use lib.Seq.{get_or-set_same, get_or-set_other}
use Rattle.rules.specs.Shape.{greatest_m, phases}
use Rattle.rules.specs.Label.{label_path, coefficient, constant, row_coefficient}
use Rattle.words.proofs.Labels.{over_one}

pub record Divided (h m l q r rest : ℕ) (c : List ℕ) : Type 0 where
  pub base : q ≡ phases h
  pub within : r ≤ m
  pub above : rest ≡ l / q ^ (m + 1 - r)
  pub long : length c ≡ suc greatest_m
  pub lowest : get_or c 0 0 ≡ constant h l
  pub rows : (j : ℕ) → r < j → j ≤ m → get_or c j 0 ≡ coefficient h m l j

-- one more division
divide_more : (l q e : ℕ) → l / q ^ e / q ≡ l / q ^ suc e
divide_more l q e = div-div-eq-div-mul l (q ^ e) q ∙ ap (λ (x : ℕ). l / x) (sym (pow-suc q e))

module _ (h m l q : ℕ) where
  pub divided_first : (c : List ℕ) → q ≡ phases h → length c ≡ suc greatest_m →
      Divided h m l q m (l / q) (set c 0 (l % q))
  unfolding constant
  divided_first c b n = record {
    base = b;
    within = omega arith;
    above = sym (ap (λ (e : ℕ). l / q ^ e) one ∙ over_one q l);
    long = length-set c 0 (l % q) ∙ n;
    lowest = get_or-set_same c 0 (l % q) 0 (omega arith) ∙ ap (λ (x : ℕ). l % x) b;
    rows = λ j h₁ h₂. absurd (not-le_of_lt h₁ h₂);
  }
    where
      one : m + 1 - m ≡ 1
      one = omega arith

  module _ (r rest : ℕ) (c : List ℕ) (t : Divided h m l q r rest c) (some : 0 < r) (most : m ≤ greatest_m) where
    -- the coefficient that is taken next
    taken_next : rest % q ≡ coefficient h m l r
    unfolding coefficient
    taken_next = rw (t.above, t.base)

    taken_row : (j : ℕ) → r - 1 < j → j ≤ m → (r ≡ j) ⊎ (r < j) → get_or (set c r (rest % q)) j 0 ≡ coefficient h m l j
    taken_row j h₁ h₂ (inl e) =
        ap (λ (k : ℕ). get_or (set c r (rest % q)) k 0) (sym e)
        ∙ get_or-set_same c r (rest % q) 0 (omega (arith, t.long, t.within))
        ∙ taken_next ∙ ap (λ (k : ℕ). coefficient h m l k) e
    taken_row j h₁ h₂ (inr h₃) = get_or-set_other c r j (rest % q) 0 (λ e. omega arith) ∙ t.rows j h₃ h₂

    pub divided_step : Divided h m l q (r - 1) (rest / q) (set c r (rest % q))
    divided_step = record {
      base = t.base;
      within = omega (arith, t.within);
      above =
          ap (λ (x : ℕ). x / q) t.above ∙ divide_more l q (m + 1 - r)
          ∙ ap (λ (e : ℕ). l / q ^ e) (omega (arith, t.within));
      long = length-set c r (rest % q) ∙ t.long;
      lowest = get_or-set_other c r 0 (rest % q) 0 (λ e. omega arith) ∙ t.lowest;
      rows = λ j h₁ h₂. taken_row j h₁ h₂ (eq-or-lt_of_le (omega arith));
    }

  -- all is taken: the rest is the path number
  module _ (r rest : ℕ) (c : List ℕ) (t : Divided h m l q r rest c) (none : r ≡ 0) where
    pub divided_path : rest ≡ label_path h m l
    unfolding label_path
    divided_path = t.above ∙ ap (λ (e : ℕ). l / q ^ e) (omega arith) ∙ ap (λ (b : ℕ). l / b ^ (m + 1)) t.base

    pub divided_rows : (j : ℕ) → j ≤ m → get_or c j 0 ≡ row_coefficient h m l j
    unfolding row_coefficient
    divided_rows zero h₁ = t.lowest
    divided_rows (suc j) h₁ = t.rows (suc j) (omega arith) h₁
