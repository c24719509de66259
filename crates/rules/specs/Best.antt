-- Which label a decoder answers: 01 "What the receiver hears".
-- Defines:  AtMost u v, AtLeast u v          of whole numbers, u is at most v; of natural numbers, u is at least v
--           Best n Stands value l v          among the labels below n, every value stands to v as Stands says, and l is
--                                            the earliest label that has v
--           Tied n value l v tied            tied says whether a label below n other than l has v too
--           Greatest h m ys l v              v is the greatest correlation: over every label of the shape, at most v
--           Nearest h m w l d                d is the least distance: over every label of the shape, at least d
-- Laws: proofs/BestLaws.antt (only one label with its value is best, and only one tie is told).
-- Assumes nothing: these are definitions.
use Rattle.std.specs.Prelude.{ℕ, ◌≤◌, ◌<◌, ◌≡◌, Bool, true, List, ◌≢◌, ◌↔◌, T, ℤ}
use Rattle.std.specs.Int.Signed.{le_z}
use Rattle.rules.specs.Label.{labels}
use Rattle.rules.specs.Distance.{distance_to}
use Rattle.rules.specs.Soft.{correlation}

abbrev pub AtMost : ℤ → ℤ → Type 0
AtMost u v = T (le_z u v)

abbrev pub AtLeast : ℕ → ℕ → Type 0
AtLeast u v = v ≤ u

pub record Best {X : Type 0} (n : ℕ) (Stands : X → X → Type 0) (value : ℕ → X) (l : ℕ) (v : X) : Type 0 where
  pub inside : l < n
  pub attained : v ≡ value l
  pub best : (k : ℕ) → k < n → Stands (value k) v
  pub earliest : (k : ℕ) → k < l → value k ≢ v

abbrev pub Tied : {X : Type 0} → ℕ → (ℕ → X) → ℕ → X → Bool → Type 0
Tied n value l v tied = (tied ≡ true) ↔ ((k : ℕ) × (k < n) × (k ≢ l) × (value k ≡ v))

abbrev pub Greatest : ℕ → ℕ → List ℤ → ℕ → ℤ → Type 0
Greatest h m ys l v = Best (labels h m) AtMost (correlation h m ys) l v

abbrev pub Nearest : ℕ → ℕ → List ℕ → ℕ → ℕ → Type 0
Nearest h m w l d = Best (labels h m) AtLeast (distance_to h m w) l d
