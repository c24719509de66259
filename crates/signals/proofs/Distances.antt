-- Distances by Lee's. In order: at two phases, differing places are Lee distance; so every distance is Lee's; no two
-- symbols lie further apart than half a turn.
-- Assumes nothing.
use Prim.Native.Nat.{ℕ, zero, suc, ◌≤◌, ◌<◌}
use native.Mathlib.Omega.{arith}
use mathlib.Core.Path.{◌≡◌, refl, sym, ◌∙◌, ap}
use mathlib.Core.Bool.{Bool, true, false, not, cond}
use lib.Dec.{eqb}
use borrow.Author.Tests.{eqb-true}
use Rattle.range.specs.Below.{one_if, count_below}
use Rattle.range.proofs.Sums.{sum_below_cong}
use Rattle.rules.specs.Shape.{phases, half_turn}
use Rattle.rules.specs.Pair.{minus}
use Rattle.rules.specs.Distance.{hamming, lee_of, lee, distance}
use Rattle.rules.proofs.Range.{phases_half}

differ_lee : (a b : ℕ) → a < 2 → b < 2 → one_if (not (eqb a b)) ≡ lee_of 1 (minus 2 a b)
unfolding lee_of minus
differ_lee zero zero p q = refl
differ_lee zero (suc zero) p q = refl
differ_lee (suc zero) zero p q = refl
differ_lee (suc zero) (suc zero) p q = refl
differ_lee zero (suc (suc b)) p q = absurd (omega arith)
differ_lee (suc zero) (suc (suc b)) p q = absurd (omega arith)
differ_lee (suc (suc a)) b p q = absurd (omega arith)

hamming_lee : (n : ℕ) (a b : ℕ → ℕ) → ((i : ℕ) → i < n → a i < 2) → ((i : ℕ) → i < n → b i < 2) →
    hamming n a b ≡ lee 1 n a b
unfolding hamming lee count_below
hamming_lee n a b p q = sum_below_cong n _ _ (λ i l. differ_lee (a i) (b i) (p i l) (q i l))

pub distance_lee : (h n : ℕ) (a b : ℕ → ℕ) → ((i : ℕ) → i < n → a i < phases h) → ((i : ℕ) → i < n → b i < phases h) →
    distance h n a b ≡ lee h n a b
unfolding distance
distance_lee h n a b p q = by (eqb h 1) refl
  where
    by : (t : Bool) → eqb h 1 ≡ t → cond t (hamming n a b) (lee h n a b) ≡ lee h n a b
    by true e =
        let one : h ≡ 1 = eqb-true h 1 e in
        hamming_lee n a b (λ i l. rw one at (p i l)) (λ i l. rw one at (q i l)) ∙ ap (λ (k : ℕ). lee k n a b) (sym one)
    by false e = refl

pub lee_of_le : (h d : ℕ) → 1 ≤ h → lee_of h d ≤ half_turn h
unfolding lee_of
lee_of_le h d one = omega (arith, phases_half h one)
