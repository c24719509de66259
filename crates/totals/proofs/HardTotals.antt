-- The gains of symbols, and their totals: a gain is half a turn less the Lee distance, so a total is N half turns less
-- the distance of the word. In order: a gain; its bound; a total.
-- Not here: soft values (SoftTotals), which label is nearest (Answers).  Assumes nothing.
use Prim.Native.Nat.{ℕ, ◌+◌, ◌*◌, ◌≤◌, ◌<◌}
use native.Mathlib.Omega.{arith}
use mathlib.Core.Path.{◌≡◌}
use mathlib.Core.List.{List}
use Rattle.range.proofs.Sums.{sum_below_pairs}
use Rattle.rules.specs.Shape.{phases, half_turn, carriers}
use Rattle.rules.specs.Word.{word_at, symbol_at}
use Rattle.rules.specs.Pair.{minus}
use Rattle.rules.specs.Distance.{lee_of, lee, distance}
use Rattle.rules.proofs.SymbolLaws.{word_at_lt}
use Rattle.signals.proofs.Distances.{lee_of_le, distance_lee}
use Rattle.totals.specs.Totals.{total_of}
use Rattle.totals.specs.Gains.{nearness, hard_gain, table_of}
use Rattle.totals.proofs.GainTables.{total_of_table}

pub hard_gain_lem : (h : ℕ) (w : List ℕ) (i s : ℕ) → 1 ≤ h →
    hard_gain h w i s + lee_of h (minus (phases h) (symbol_at w i) s) ≡ half_turn h
unfolding hard_gain nearness
hard_gain_lem h w i s one = omega (arith, lee_of_le h (minus (phases h) (symbol_at w i) s) one)

pub hard_gain_le : (h : ℕ) (w : List ℕ) (i s : ℕ) → hard_gain h w i s ≤ half_turn h
unfolding hard_gain nearness
hard_gain_le h w i s = omega arith

pub hard_total : (h m : ℕ) (w : List ℕ) (l : ℕ) → 1 ≤ h → ((i : ℕ) → i < carriers m → symbol_at w i < phases h) →
    total_of h m (table_of h m (hard_gain h w)) l + distance h (carriers m) (symbol_at w) (word_at h m l)
    ≡ carriers m * half_turn h
unfolding lee
hard_total h m w l one inside =
    rw (
      total_of_table h m (hard_gain h w) l,
      distance_lee h (carriers m) (symbol_at w) (word_at h m l) inside (λ i _. word_at_lt h m l i),
    ) (sum_below_pairs (carriers m) (half_turn h) _ _ (λ i _. hard_gain_lem h w i (word_at h m l i) one))
