-- The table of the paths in use: the paths of m = 2, 3, .., end to end, one number each, and where each m begins.
-- That the code's constants are these is computed where the code reads them (steps).
-- In order: what a path in use is; the steps of any other; a path as one number, and its digits; the table and the
-- starts; a place of the table lies inside; what stands there; the steps of a path in use.  Assumes nothing.
use Prim.Native.Nat.{ℕ, zero, suc, ◌+◌, ◌-◌, ◌*◌, ◌/◌, ◌^◌, ◌≤◌, ◌<◌, suc-le-suc}
use native.Mathlib.Nat.{not-suc-le-zero, le_of_suc-le-suc, zero-lt-suc, mul-suc, div-one, div-div-eq-div-mul}
use native.Mathlib.Omega.{arith}
use mathlib.Core.Path.{◌≡◌, sym, ◌∙◌, ap}
use mathlib.Core.Bool.{true, false}
use mathlib.Core.List.{List, [], ◌∷◌}
use lib.Arith.{digits_div, digits_mod}
use lib.Dec.{ltb}
use lib.ListN.{length, get_or, replicate}
use lib.Pow.{pow-add}
use borrow.Author.Tests.{ltb-true, lt-ltb, le-leb}
use Rattle.range.specs.Below.{sum_below, list_below, rows_below}
use Rattle.range.proofs.Sums.{sum_below_lt}
use Rattle.range.proofs.Tests.{and_left, and_right}
use Rattle.range.proofs.Lists.{length_list_below, list_below_at, rows_below_at}
use Rattle.range.proofs.Filled.{filled_cong}
use Rattle.rules.specs.Shape.{greatest_m, in_m, paths_in_use}
use Rattle.rules.specs.Path.{IsPath, path_at}
use Rattle.rules.proofs.Range.{in_m_range, in_m_of}
use Rattle.paths.proofs.Members.{is_path_in}
use Rattle.paths.proofs.Number.{used_is_path}
use Rattle.steps.specs.PathSteps.{path_row, in_use, steps_of, step_in, unpacked}

pub in_use_range : (m n : ℕ) → in_use m n ≡ true → (2 ≤ m) × (m ≤ greatest_m) × (n < paths_in_use m)
in_use_range m n e =
    let r = in_m_range m (and_left (in_m m) (ltb n (paths_in_use m)) e) in
    (r.0, r.1, ltb-true n (paths_in_use m) (and_right (in_m m) (ltb n (paths_in_use m)) e))

pub steps_of_unused : (m n : ℕ) → in_use m n ≡ false → replicate greatest_m 0 ≡ steps_of m n
unfolding steps_of
steps_of_unused m n e = rw e

-- the number whose digits to base 8 are those of a, and then the list's
unfoldable pub packed : ℕ → List ℕ → ℕ
packed a [] = a
packed a (x ∷ p) = packed (a * 8 + x) p

-- each element is a digit
abbrev Digits : List ℕ → Type 0
Digits p = (i : ℕ) → i < length p → get_or p i 0 < 8

rest_digits : (x : ℕ) (p : List ℕ) → Digits (x ∷ p) → Digits p
rest_digits x p d i h = d (suc i) (suc-le-suc h)

-- what stands above the list
packed_above : (a : ℕ) (p : List ℕ) → Digits p → packed a p / 2 ^ (3 * length p) ≡ a
unfolding packed
packed_above a [] d = div-one a
packed_above a (x ∷ p) d =
    let e : 2 ^ (3 * suc (length p)) ≡ 2 ^ (3 * length p) * 8 =
    rw (mul-suc 3 (length p)) (pow-add 2 (3 * length p) 3) in
    rw e
    (sym (div-div-eq-div-mul (packed (a * 8 + x) p) (2 ^ (3 * length p)) 8)
    ∙ ap (λ (y : ℕ). y / 8) (packed_above (a * 8 + x) p (rest_digits x p d))
    ∙ digits_div a (d zero (zero-lt-suc (length p))))

packed_at : (a : ℕ) (p : List ℕ) → Digits p → (k : ℕ) → k < length p → step_in (length p) (packed a p) k ≡ get_or p k 0
unfolding packed
packed_at a [] d k h = absurd (not-suc-le-zero h)
packed_at a (x ∷ p) d zero h =
    let e : suc (length p) - 1 - 0 ≡ length p = omega arith in
    rw (e, packed_above (a * 8 + x) p (rest_digits x p d)) (digits_mod a (d zero (zero-lt-suc (length p))))
packed_at a (x ∷ p) d (suc k) h =
    let e : suc (length p) - 1 - suc k ≡ length p - 1 - k = omega arith in
    rw e (packed_at (a * 8 + x) p (rest_digits x p d) k (le_of_suc-le-suc h))

-- the numbers m from 2 on, counted from 0
abbrev in_use_from_2 : ℕ → ℕ
in_use_from_2 j = paths_in_use (j + 2)

abbrev numbers_from_2 : ℕ → List ℕ
numbers_from_2 j = list_below (in_use_from_2 j) (λ n. packed 0 (path_at (j + 2) n))

unfoldable pub table : List ℕ
table = rows_below (greatest_m - 1) numbers_from_2

unfoldable pub starts : List ℕ
starts = list_below (greatest_m - 1) (λ j. sum_below j in_use_from_2)

module _ (m n : ℕ) (least : 2 ≤ m) (most : m ≤ greatest_m) (used : n < paths_in_use m) where
  back : m - 2 + 2 ≡ m
  back = omega arith

  starts_at : get_or starts (m - 2) 0 ≡ sum_below (m - 2) in_use_from_2
  unfolding starts
  starts_at = list_below_at (greatest_m - 1) (λ j. sum_below j in_use_from_2) (m - 2) 0 (omega arith)

  pub start_lt : get_or starts (m - 2) 0 + n < sum_below (greatest_m - 1) in_use_from_2
  start_lt = rw starts_at (sum_below_lt (greatest_m - 1) in_use_from_2 (m - 2) n (omega arith) (rw back used))

  table_at : get_or table (get_or starts (m - 2) 0 + n) 0 ≡ packed 0 (path_at m n)
  unfolding table
  table_at =
      rw starts_at
      (rows_below_at (greatest_m - 1) numbers_from_2 in_use_from_2
      (λ j. length_list_below (in_use_from_2 j) (λ k. packed 0 (path_at (j + 2) k))) (m - 2) n 0 (omega arith)
      (rw back used)
      ∙ list_below_at (in_use_from_2 (m - 2)) (λ k. packed 0 (path_at (m - 2 + 2) k)) n 0 (rw back used)
      ∙ ap (λ (k : ℕ). packed 0 (path_at k n)) back)

  pub steps_of_used : steps_of m n ≡ path_row m n
  unfolding steps_of
  steps_of_used = simp (le-leb 2 m least, le-leb m greatest_m most, lt-ltb n (paths_in_use m) used)

  path_is : IsPath m (path_at m n)
  path_is = used_is_path m n (in_m_of m least most) used

  -- the steps are digits to base 8, since no m in range is above 7
  steps_digits : Digits (path_at m n)
  steps_digits i h = omega (arith, (is_path_in m (path_at m n) path_is i h).1)

  step_at : (k : ℕ) → k < m → step_in m (packed 0 (path_at m n)) k ≡ get_or (path_at m n) k 0
  step_at k h =
      ap (λ (j : ℕ). step_in j (packed 0 (path_at m n)) k) (sym path_is.long)
      ∙ packed_at 0 (path_at m n) steps_digits k (rw path_is.long h)

  pub table_steps : unpacked m (get_or table (get_or starts (m - 2) 0 + n) 0) ≡ steps_of m n
  unfolding unpacked path_row
  table_steps =
      rw (table_at, steps_of_used)
      (filled_cong m (step_in m (packed 0 (path_at m n))) (λ k. get_or (path_at m n) k 0)
      (replicate greatest_m 0) step_at)
