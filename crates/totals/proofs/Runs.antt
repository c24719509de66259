-- The tables of the stages by their runs: an entry is named by its run, by the coefficient of its stage, and by its
-- number in the run. In order: how long the tables are; what stands in the gains with a word put in; what stands in the
-- table after a stage; after the last stage, what stands there for a label.
-- Not here: what the numbers come to after several stages (Stages).  Assumes nothing.
use Prim.Native.Nat.{ℕ, ◌+◌, ◌*◌, ◌%◌, ◌<◌}
use native.Mathlib.Nat.{mul-one}
use native.Mathlib.Omega.{arith}
use mathlib.Core.Path.{◌≡◌, ◌∙◌}
use mathlib.Core.List.{List}
use lib.Arith.{digits_lt, digits_div, digits_mod}
use lib.ListN.{length, get_or}
use Rattle.range.proofs.Lists.{length_list_below, list_below_at}
use Rattle.totals.specs.Climb.{gains_with_at, gains_with, pair_at, climbed_at, climbed, by_label}

pub length_gains_with : (q n : ℕ) (w g : List ℕ) → length (gains_with q n w g) ≡ q * n
unfolding gains_with
length_gains_with q n w g = length_list_below (q * n) (gains_with_at q n w g)

pub length_climbed : (q half w : ℕ) (xs : List ℕ) → length (climbed q half w xs) ≡ q * half * q * w
unfolding climbed
length_climbed q half w xs = length_list_below (q * half * q * w) (climbed_at q half w xs)

-- symbol s at place i
pub gains_with_at_run : (q n : ℕ) (w g : List ℕ) (s i : ℕ) → i < n →
    gains_with_at q n w g (s * n + i) ≡ get_or g ((s + get_or w i 0) % q * n + i) 0
unfolding gains_with_at
gains_with_at_run q n w g s i l = rw (digits_div s l, digits_mod s l)

pub gains_with_at_lem : (q n : ℕ) (w g : List ℕ) (e : ℕ) → e < q * n →
    get_or (gains_with q n w g) e 0 ≡ gains_with_at q n w g e
unfolding gains_with
gains_with_at_lem q n w g e l = list_below_at (q * n) (gains_with_at q n w g) e 0 l

-- run t for coefficient c, number r
pub climbed_at_run : (q half w : ℕ) (xs : List ℕ) (t c r : ℕ) → c < q → r < w →
    climbed_at q half w xs ((t * q + c) * w + r) ≡ pair_at q half w xs t c r
unfolding climbed_at
climbed_at_run q half w xs t c r lc lr =
    rw (digits_div (t * q + c) lr, digits_mod (t * q + c) lr, digits_div t lc, digits_mod t lc)

pub climbed_at_lem : (q half w : ℕ) (xs : List ℕ) (t c r : ℕ) → t < q * half → c < q → r < w →
    get_or (climbed q half w xs) ((t * q + c) * w + r) 0 ≡ pair_at q half w xs t c r
unfolding climbed
climbed_at_lem q half w xs t c r lt lc lr =
    list_below_at (q * half * q * w) (climbed_at q half w xs) ((t * q + c) * w + r) 0 (digits_lt (digits_lt lt lc) lr)
    ∙ climbed_at_run q half w xs t c r lc lr

-- the label with the last coefficient taken in c, the others r and the constant s
pub by_label_last : (q w : ℕ) (xs : List ℕ) (c r s : ℕ) → c < q → r < w → s < q →
    by_label q (w * q) (climbed q 1 w xs) ((c * w + r) * q + s) ≡ pair_at q 1 w xs s c r
unfolding by_label
by_label_last q w xs c r s lc lr ls =
    let e : s * (w * q) + (c * w + r) ≡ (s * q + c) * w + r = omega arith in
    rw (digits_div (c * w + r) ls, digits_mod (c * w + r) ls, e)
    (climbed_at_lem q 1 w xs s c r (rw mul-one ls) lc lr)
