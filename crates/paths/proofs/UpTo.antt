-- What stands in 1, .., m: each number of the range once, and no other.
-- In order: its length; one more at the end; 0 and the numbers above m; the numbers of the range; what stands is
-- in range; no duplicates.
-- Not here: orders of 1, .., m (Members).  Assumes nothing.
use Prim.Native.Nat.{ℕ, zero, suc, ◌+◌, ◌≤◌, ◌<◌}
use native.Mathlib.Decide.{ℕ_discrete, dec_le}
use native.Mathlib.Omega.{arith}
use mathlib.Core.Path.{◌≡◌, refl, ◌∙◌, ap}
use mathlib.Core.List.{[], ◌∷◌}
use lib.ListN.{length}
use Rattle.range.specs.Below.{list_below}
use Rattle.range.proofs.Lists.{length_list_below, list_below_suc}
use Rattle.rules.specs.Path.{times, up_to}
use Rattle.paths.proofs.Times.{Distinct, times_here, times_there, times_append}

pub length_up_to : (m : ℕ) → length (up_to m) ≡ m
unfolding up_to
length_up_to m = length_list_below m suc

times_up_to_suc : (m k : ℕ) → times k (up_to (suc m)) ≡ times k (up_to m) + times k (suc m ∷ [])
unfolding up_to
times_up_to_suc m k = ap (times k) (list_below_suc m suc) ∙ times_append k (list_below m suc) (suc m ∷ [])

pub times_up_to_zero : (m : ℕ) → times 0 (up_to m) ≡ 0
unfolding times up_to list_below
times_up_to_zero zero = refl
times_up_to_zero (suc m) =
    omega (arith, times_up_to_suc m 0, times_up_to_zero m, times_there 0 (suc m) [] (omega arith))

pub times_up_to_above : (m k : ℕ) → m < k → times k (up_to m) ≡ 0
unfolding times up_to list_below
times_up_to_above zero k h = refl
times_up_to_above (suc m) k h =
    omega (arith, times_up_to_suc m k, times_up_to_above m k (omega arith), times_there k (suc m) [] (omega arith))

pub times_up_to : (m k : ℕ) → 1 ≤ k → k ≤ m → times k (up_to m) ≡ 1
unfolding times
times_up_to zero k a b = absurd (omega arith)
times_up_to (suc m) k a b = at (ℕ_discrete (suc m) k) (λ h. times_up_to m k a h)
  where
    at : Dec (suc m ≡ k) → (k ≤ m → times k (up_to m) ≡ 1) → times k (up_to (suc m)) ≡ 1
    at (yes e) f = omega (arith, times_up_to_suc m k, times_up_to_above m k (omega arith), times_here k (suc m) [] e)
    at (no d) f = omega (arith, times_up_to_suc m k, f (omega arith), times_there k (suc m) [] d)

-- what stands in 1, .., m is in range
pub in_up_to : (m k : ℕ) → 1 ≤ times k (up_to m) → (1 ≤ k) × (k ≤ m)
in_up_to m zero h = absurd (omega (arith, times_up_to_zero m))
in_up_to m (suc k) h = at (dec_le (suc k) m)
  where
    at : Dec (suc k ≤ m) → (1 ≤ suc k) × (suc k ≤ m)
    at (yes l) = omega arith
    at (no d) = absurd (omega (arith, times_up_to_above m (suc k) (omega arith)))

pub up_to_distinct : (m : ℕ) → Distinct (up_to m)
up_to_distinct m zero = omega (arith, times_up_to_zero m)
up_to_distinct m (suc k) = at (dec_le (suc k) m)
  where
    at : Dec (suc k ≤ m) → times (suc k) (up_to m) ≤ 1
    at (yes l) = omega (arith, times_up_to m (suc k) (omega arith) l)
    at (no d) = omega (arith, times_up_to_above m (suc k) (omega arith))
