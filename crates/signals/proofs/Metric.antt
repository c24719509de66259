-- 01's distances are distances: rules' distance, of words whose symbols lie below 2^h. In order: they weigh the
-- difference; 0 between words that agree; the same both ways; no longer than a way over a third word; 0 from a word to
-- itself.
-- Not here: the same for any weight of differences (Weights).  Assumes nothing.
use Prim.Native.Nat.{ℕ, ◌+◌, ◌≤◌, ◌<◌}
use mathlib.Core.Path.{◌≡◌, refl, sym, ◌∙◌}
use Rattle.rules.specs.Shape.{phases}
use Rattle.rules.specs.Distance.{lee_of, distance}
use Rattle.signals.proofs.Distances.{distance_lee}
use Rattle.signals.proofs.Weights.{weigh, lee_weight, lee_weigh}
use Rattle.signals.proofs.Weights.{weigh_zero_of_agree, weigh_comm, weigh_triangle}

module _ (h n : ℕ) where
  pub distance_weigh : (a b : ℕ → ℕ) → ((i : ℕ) → i < n → a i < phases h) → ((i : ℕ) → i < n → b i < phases h) →
      distance h n a b ≡ weigh (lee_of h) (phases h) n a b
  distance_weigh a b p q = distance_lee h n a b p q ∙ lee_weigh h n a b

  module _ (a b : ℕ → ℕ) (p : (i : ℕ) → i < n → a i < phases h) (q : (i : ℕ) → i < n → b i < phases h) where
    pub distance_zero_of_agree : ((i : ℕ) → i < n → a i ≡ b i) → distance h n a b ≡ 0
    distance_zero_of_agree e =
        distance_weigh a b p q ∙ weigh_zero_of_agree (phases h) (lee_of h) (lee_weight h) n a b q e

    pub distance_comm : distance h n a b ≡ distance h n b a
    distance_comm =
        distance_weigh a b p q ∙ weigh_comm (phases h) (lee_of h) (lee_weight h) n a b p q
        ∙ sym (distance_weigh b a q p)

    pub distance_triangle : (c : ℕ → ℕ) → ((i : ℕ) → i < n → c i < phases h) →
        distance h n a c ≤ distance h n a b + distance h n b c
    distance_triangle c r =
        rw (distance_weigh a c p r, distance_weigh a b p q, distance_weigh b c q r)
        (weigh_triangle (phases h) (lee_of h) (lee_weight h) n a b c q)

pub distance_self : (h n : ℕ) (a : ℕ → ℕ) → ((i : ℕ) → i < n → a i < phases h) → distance h n a a ≡ 0
distance_self h n a p = distance_zero_of_agree h n a a p p (λ _ _. refl)
