-- The runs of a table: specs/SearchTables.antt. In order: no sum of two numbers is too great, and no number of a run is
-- too great to be added to another; a gain as a number of the first table; a sum as a number of the next table.
-- Not here: the labels of a table (Counting), the stages one after the other (Climbing).  Assumes nothing.
use Prim.Native.Nat.{ℕ, ◌+◌, ◌*◌, ◌%◌, ◌≤◌, ◌<◌}
use native.Mathlib.Decide.{dec_lt}
use native.Mathlib.Omega.{arith}
use mathlib.Core.Path.{◌≡◌, sym, ◌∙◌, ap}
use mathlib.Core.List.{List}
use lib.ListN.{length, get_or, get_or-eq_default}
use Rattle.range.proofs.Products.{times_least}
use Rattle.totals.specs.Climb.{gains_with_at, pair_at, climbed_at}
use Rattle.totals.proofs.Runs.{gains_with_at_run, climbed_at_run}
use Rattle.engine.specs.SearchTables.{most_total, Runs}

module _ {q half w : ℕ} {xs : List ℕ} (p : Runs q half w xs) where
  half_less : (k : ℕ) → get_or xs k 0 * 2 ≤ most_total
  half_less k = omega (arith, times_least (get_or xs k 0 * 2) half p.halves, p.small k)

  pub runs_sum : (i j : ℕ) → get_or xs i 0 + get_or xs j 0 ≤ most_total
  runs_sum i j = omega (arith, half_less i, half_less j)

  -- a run r of the table, which begins at o: its numbers are no greater than half the greatest
  pub run_half : (r : List ℕ) (o : ℕ) → length r ≡ w → ((i : ℕ) → i < w → get_or r i 0 ≡ get_or xs (o + i) 0) →
      (i : ℕ) → get_or r i 0 * 2 ≤ most_total
  run_half r o long is i = at (dec_lt i w)
    where
      at : Dec (i < w) → get_or r i 0 * 2 ≤ most_total
      at (yes l) = rw (is i l) (omega (arith, runs_sum (o + i) (o + i)))
      at (no n) = rw (get_or-eq_default r 0 {n = i} (omega (arith, n, long))) (omega arith)

-- the gain of symbol s at place i, as many symbols further on as the word's symbol says
pub gains_with_at_gain : (q n : ℕ) (w g : List ℕ) (s i x e : ℕ) → i < n → x ≡ get_or w i 0 → e ≡ (s + x) % q →
    get_or g (e * n + i) 0 ≡ gains_with_at q n w g (s * n + i)
gains_with_at_gain q n w g s i x e l f k = rw (k, f) (sym (gains_with_at_run q n w g s i l))

-- sum r of the runs of t at coefficient c, in the next table
pub climbed_at_sum : (q half w : ℕ) (xs : List ℕ) (t c r : ℕ) → c < q → r < w →
    pair_at q half w xs t c r ≡ climbed_at q half w xs (t * (q * w) + (c * w + r))
climbed_at_sum q half w xs t c r lc lr =
    let i : (t * q + c) * w + r ≡ t * (q * w) + (c * w + r) = omega arith in
    sym (climbed_at_run q half w xs t c r lc lr) ∙ ap (climbed_at q half w xs) i
