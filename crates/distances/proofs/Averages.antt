-- Bounds from below that hold at the places of a flip together hold of the sum over all places, each in its share.
-- In order: one digit turned over; two.
-- Not here: flips (places' Flips), bounds at each place alone (range's Sums).  Assumes nothing.
use Prim.Native.Nat.{ℕ, ◌+◌, ◌*◌, ◌≤◌, ◌<◌}
use native.Mathlib.Omega.{arith}
use Rattle.range.specs.Below.{sum_below}
use Rattle.range.proofs.Sums.{sum_below_sum, sum_below_ge}
use Rattle.rules.specs.Shape.{carriers}
use Rattle.places.proofs.Flips.{flip, sum_below_flip}

-- each place is counted twice
pub sum_below_ge_flip : (m a c : ℕ) (f : ℕ → ℕ) → 1 ≤ a → a ≤ m →
    ((i : ℕ) → i < carriers m → c ≤ f i + f (flip m a i)) → carriers m * c ≤ 2 * sum_below (carriers m) f
sum_below_ge_flip m a c f l u e =
    omega (
      arith,
      sum_below_ge (carriers m) c (λ i. f i + f (flip m a i)) e,
      sum_below_sum (carriers m) f (λ i. f (flip m a i)),
      sum_below_flip m a f l u,
    )

-- each place is counted four times
pub sum_below_ge_flips : (m a b c : ℕ) (f : ℕ → ℕ) → 1 ≤ a → a ≤ m → 1 ≤ b → b ≤ m →
    ((i : ℕ) → i < carriers m → c ≤ f i + f (flip m a i) + (f (flip m b i) + f (flip m a (flip m b i)))) →
    carriers m * c ≤ 4 * sum_below (carriers m) f
sum_below_ge_flips m a b c f la ua lb ub e =
    omega (
      arith,
      sum_below_ge_flip m b c (λ i. f i + f (flip m a i)) lb ub e,
      sum_below_sum (carriers m) f (λ i. f (flip m a i)),
      sum_below_flip m a f la ua,
    )
