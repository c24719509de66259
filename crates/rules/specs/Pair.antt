-- The pair check: 01 "The partner and the pair check".
-- Words are taken as functions of the place.
-- Defines:  minus q a b             a - b modulo q, for a and b below q
--           phase_count h n a u k   how many places i with i + u < n have symbol i minus symbol i + u equal to k
--                                   modulo 2^h
--           pair_count h n a b u k  the same, over both words together
--           GolayPair h m a b       for each shift u from 1 to N - 1 and each phase k the count for k equals the count
--                                   for k + 2^(h-1)
--           phases_agree h n a b u  whether at shift u the count for each phase equals the count half a turn on
--           golay_pair h m a b      the test of a pair: they agree at every shift
-- Laws: proofs/Differences.antt (minus), crate pair (golay_pair_iff: the test is the claim), crate golay.
-- Assumes nothing: these are definitions.
use Rattle.std.specs.Prelude.{ℕ, suc, ◌+◌, ◌-◌, ◌%◌, ◌≤◌, ◌<◌, ◌≡◌, Bool, eqb}
use Rattle.range.specs.Below.{count_below, all_below}
use Rattle.rules.specs.Shape.{phases, half_turn, carriers}

unfoldable pub minus : ℕ → ℕ → ℕ → ℕ
minus q a b = (a + (q - b)) % q

unfoldable pub phase_count : ℕ → ℕ → (ℕ → ℕ) → ℕ → ℕ → ℕ
phase_count h n a u k = count_below (n - u) (λ i. eqb (minus (phases h) (a i) (a (i + u))) (k % phases h))

unfoldable pub pair_count : ℕ → ℕ → (ℕ → ℕ) → (ℕ → ℕ) → ℕ → ℕ → ℕ
pair_count h n a b u k = phase_count h n a u k + phase_count h n b u k

abbrev pub GolayPair : ℕ → ℕ → (ℕ → ℕ) → (ℕ → ℕ) → Type 0
GolayPair h m a b =
    (u : ℕ) → 1 ≤ u → u < carriers m → (k : ℕ) → k < phases h →
    pair_count h (carriers m) a b u k ≡ pair_count h (carriers m) a b u (k + half_turn h)

abbrev pub phases_agree : ℕ → ℕ → (ℕ → ℕ) → (ℕ → ℕ) → ℕ → Bool
phases_agree h n a b u = all_below (phases h) λ k. eqb (pair_count h n a b u k) (pair_count h n a b u (k + half_turn h))

unfoldable pub golay_pair : ℕ → ℕ → (ℕ → ℕ) → (ℕ → ℕ) → Bool
golay_pair h m a b = all_below (carriers m - 1) λ u. phases_agree h (carriers m) a b (suc u)
