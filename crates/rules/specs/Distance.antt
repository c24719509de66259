-- Distances between two words of n symbols: 01 "What the receiver hears".
-- Defines:  hamming n a b        the number of places at which a and b differ
--           lee_of h d           the smaller of d and 2^h - d
--           lee h n a b          the sum over places of lee_of of the difference modulo 2^h
--           distance h n a b     differing places for h = 1, else Lee distance
--           distance_to h m w l  the distance of symbols w from label l's word
-- Laws: crates signals (as distances) and distances (between words).  Assumes nothing: these are definitions.
use Rattle.std.specs.Prelude.{ℕ, ◌-◌, min, cond, not, List, eqb}
use Rattle.range.specs.Below.{sum_below, count_below}
use Rattle.rules.specs.Shape.{phases, carriers}
use Rattle.rules.specs.Word.{word_at, symbol_at}
use Rattle.rules.specs.Pair.{minus}

unfoldable pub hamming : ℕ → (ℕ → ℕ) → (ℕ → ℕ) → ℕ
hamming n a b = count_below n (λ i. not (eqb (a i) (b i)))

unfoldable pub lee_of : ℕ → ℕ → ℕ
lee_of h d = min d (phases h - d)

unfoldable pub lee : ℕ → ℕ → (ℕ → ℕ) → (ℕ → ℕ) → ℕ
lee h n a b = sum_below n (λ i. lee_of h (minus (phases h) (a i) (b i)))

unfoldable pub distance : ℕ → ℕ → (ℕ → ℕ) → (ℕ → ℕ) → ℕ
distance h n a b = cond (eqb h 1) (hamming n a b) (lee h n a b)

abbrev pub distance_to : ℕ → ℕ → List ℕ → ℕ → ℕ
distance_to h m w l = distance h (carriers m) (symbol_at w) (word_at h m l)
