-- The generator as code holds it. In order: a row past the first holds digits; an entry is 0 or 1; the rows, and that
-- they are 01's; every cell is 0 or 1.  Assumes nothing.
use Prim.Native.Nat.{ℕ, zero, suc, ◌≤◌, ◌<◌, suc-le-suc}
use native.Mathlib.Nat.{not-suc-le-zero, le_refl, le_of_suc-le-suc, lt_of_lt_of_le}
use native.Mathlib.Omega.{arith}
use mathlib.Core.Path.{◌≡◌, refl, sym, ◌∙◌, ap, subst}
use mathlib.Core.List.{List, []}
use lib.ListN.{get_or}
use lib.Pow.{pow_mono}
use Rattle.range.specs.Below.{list_below}
use Rattle.range.proofs.Lists.{list_below_at, list_below_cong}
use Rattle.rules.specs.Shape.{greatest_m, carriers}
use Rattle.rules.specs.Place.{digit, generator_at, generator}
use Rattle.places.proofs.Digits.{digit_lt}
use Rattle.encoder.specs.Arrays.{generator_rows, cell}

pub generator_at_digit : (m r i : ℕ) → 1 ≤ r → generator_at m r i ≡ digit m i r
unfolding generator_at
generator_at_digit m zero i h = absurd (not-suc-le-zero h)
generator_at_digit m (suc r) i h = refl

pub generator_row : (m r n : ℕ) → 1 ≤ r → list_below n (λ i. digit m i r) ≡ list_below n (generator_at m r)
generator_row m r n h =
    list_below_cong n (λ i. digit m i r) (generator_at m r) (λ i _. sym (generator_at_digit m r i h))

pub generator_at_le : (m r i : ℕ) → generator_at m r i ≤ 1
unfolding generator_at
generator_at_le m zero i = le_refl 1
generator_at_le m (suc r) i = le_of_suc-le-suc (digit_lt m i (suc r))

pub generator_rows_at : (m r i : ℕ) → r ≤ greatest_m → i < carriers greatest_m →
    cell (generator_rows m) r i ≡ generator_at m r i
unfolding generator_rows
generator_rows_at m r i h l =
    ap (λ (row : List ℕ). get_or row i 0)
    (list_below_at (suc greatest_m) (λ k. list_below (carriers greatest_m) (generator_at m k)) r [] (omega arith))
    ∙ list_below_at (carriers greatest_m) (generator_at m r) i 0 l

-- on 01's rows and places it is 01's generator
pub generator_rows_is : (m r i : ℕ) → m ≤ greatest_m → r ≤ m → i < carriers m →
    cell (generator_rows m) r i ≡ cell (generator m) r i
unfolding generator
generator_rows_is m r i most h l =
    generator_rows_at m r i (omega arith) (lt_of_lt_of_le l (pow_mono most))
    ∙ sym
    (ap (λ (row : List ℕ). get_or row i 0)
    (list_below_at (suc m) (λ k. list_below (carriers m) (generator_at m k)) r [] (suc-le-suc h))
    ∙ list_below_at (carriers m) (generator_at m r) i 0 l)

pub generator_rows_le : (m r i : ℕ) → r ≤ greatest_m → i < carriers greatest_m → cell (generator_rows m) r i ≤ 1
generator_rows_le m r i h l = subst (λ (x : ℕ). x ≤ 1) (sym (generator_rows_at m r i h l)) (generator_at_le m r i)
