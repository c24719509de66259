-- That every soft value is a sixteen-bit number is known of a value once it is read, and so of all once a table of
-- gains is filled from them. There are half of them at each of n places. (The decoder's own proof: specs/Found.antt.)
-- In order: the value of number e of a table, where its symbol lies in the first half turn; all values.
-- Assumes nothing.
use Prim.Native.Nat.{ℕ, ◌+◌, ◌*◌, ◌/◌, ◌%◌, ◌<◌}
use native.Mathlib.Nat.{mod-lt, div-lt_iff_lt-mul, div-add-mod', mul_comm}
use native.Mathlib.Decide.{dec_lt}
use native.Mathlib.Omega.{arith}
use mathlib.Core.Path.{◌≡◌}
use mathlib.Core.List.{List}
use lib.Arith.{digits_lt, digits_div, digits_mod}
use lib.Dec.{lit<}
use lib.IntN.{ℤ, pos}
use lib.ListN.{length, get_or-eq_default}
use lib.Signed.{mag}
use Rattle.range.specs.Signed.{entry}
use Rattle.totals.specs.Gains.{raise_by}

abbrev pub SmallAt : ℕ → ℕ → List ℤ → ℕ → Type 0
SmallAt half n ys e = e / n < half → mag (entry ys (half * (e % n) + e / n)) < raise_by

module _ (half n : ℕ) (ys : List ℤ) (some : 0 < half) (l : length ys ≡ half * n)
    (read : (e : ℕ) → e < half * n → SmallAt half n ys e) where
  -- value s of place i is the one of number s n + i
  small_at : (i s : ℕ) → i < n → s < half → mag (entry ys (half * i + s)) < raise_by
  small_at i s a b = (rw (digits_div s a, digits_mod s a) at (read (s * n + i) (digits_lt b a))) b

  pub small_all : (k : ℕ) → mag (entry ys k) < raise_by
  small_all k = by (dec_lt k (length ys))
    where
      by : Dec (k < length ys) → mag (entry ys k) < raise_by
      by (yes b) =
          let a : k / half < n = (div-lt_iff_lt-mul some).1 (omega (arith, l, mul_comm half n)) in
          let e : half * (k / half) + k % half ≡ k =
          omega (arith, mul_comm half (k / half), div-add-mod' k half) in
          rw e at (small_at (k / half) (k % half) a (mod-lt k some))
      by (no b) = rw (get_or-eq_default ys (pos 0) {n = k} (omega arith)) (lit< tt)
