-- Damage that leaves the word sent the nearest: 01 "What the receiver hears". In order: of two words, one that lies
-- closer than half the distance between them is the nearer; so its message is the answer.
-- Not here: laws of distances (Metric).  Assumes nothing.
use Prim.Native.Nat.{ℕ, ◌*◌, ◌<◌}
use native.Mathlib.Nat.{le_refl, le_of_lt, ne_of_lt}
use native.Mathlib.Omega.{arith}
use mathlib.Core.Path.{sym}
use mathlib.Core.Bool.{false}
use mathlib.Core.List.{List}
use mathlib.Core.Logic.{◌≢◌}
use Rattle.rules.specs.Shape.{phases, carriers, messages}
use Rattle.rules.specs.Label.{labels, label_of}
use Rattle.rules.specs.Word.{word_at, symbol_at}
use Rattle.rules.specs.Distance.{distance, distance_to}
use Rattle.rules.specs.Best.{AtLeast}
use Rattle.rules.specs.Decoding.{Near}
use Rattle.rules.proofs.SymbolLaws.{word_at_lt}
use Rattle.rules.proofs.DecodingLaws.{best_answer_alone}
use Rattle.signals.proofs.Metric.{distance_comm, distance_triangle}

nearer_of_half : (h n : ℕ) (v a b : ℕ → ℕ) → ((i : ℕ) → i < n → v i < phases h) →
    ((i : ℕ) → i < n → a i < phases h) → ((i : ℕ) → i < n → b i < phases h) →
    2 * distance h n v a < distance h n a b → distance h n v a < distance h n v b
nearer_of_half h n v a b p q r l =
    omega (arith, distance_comm h n v a p q, distance_triangle h n a v q p b r)

-- damage below half of every distance from the word sent leaves it the nearest, alone
pub near_of_damage : (h m : ℕ) (w : List ℕ) (g : ℕ) → g < messages h m →
    ((i : ℕ) → i < carriers m → symbol_at w i < phases h) → let l = label_of h m g in
    ((k : ℕ) → k < labels h m → k ≢ l →
    2 * distance_to h m w l < distance h (carriers m) (word_at h m l) (word_at h m k)) →
    Near h m w (record { message = g; value = distance_to h m w l; tied = false })
near_of_damage h m w g inside small apart =
    let l : ℕ = label_of h m g in
    let less : (k : ℕ) → k < labels h m → k ≢ l → distance_to h m w l < distance_to h m w k =
    λ k b ne. nearer_of_half h (carriers m) (symbol_at w) (word_at h m l) (word_at h m k) small
    (λ i _. word_at_lt h m l i) (λ i _. word_at_lt h m k i) (apart k b ne) in
    best_answer_alone h m AtLeast (distance_to h m w) g inside (le_refl (distance_to h m w l))
    (λ k b ne. (le_of_lt (less k b ne), λ e. ne_of_lt (less k b ne) (sym e)))
