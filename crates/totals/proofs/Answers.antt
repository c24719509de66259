-- From the greatest total to 01's claims: the answer with the greatest total of soft gains has the greatest
-- correlation, and the one with the greatest total of hard gains is nearest. In order: answers a constant apart;
-- answers that add up to a constant; soft values; symbols.
-- Assumes nothing.
use Prim.Native.Nat.{ℕ, ◌+◌, ◌-◌, ◌*◌, ◌≤◌, ◌<◌}
use native.Mathlib.Omega.{arith}
use mathlib.Core.Path.{◌≡◌}
use mathlib.Core.List.{List}
use lib.IntN.{ℤ, pos, ◌+ℤ◌, ◌-ℤ◌}
use lib.Signed.{mag}
use Rattle.range.specs.Signed.{entry}
use Rattle.range.proofs.Shifts.{shift_difference, shift_equal, shift_le}
use Rattle.rules.specs.Shape.{phases, half_turn, carriers}
use Rattle.rules.specs.Label.{label_of}
use Rattle.rules.specs.Word.{symbol_at}
use Rattle.rules.specs.Distance.{distance_to}
use Rattle.rules.specs.Soft.{correlation}
use Rattle.rules.specs.Best.{AtMost, AtLeast}
use Rattle.rules.specs.Decoding.{Answer, BestAnswer, Loud, Near}
use Rattle.rules.proofs.DecodingLaws.{best_answer_map}
use Rattle.totals.specs.Totals.{total_of}
use Rattle.totals.specs.Gains.{raise_by, soft_gain, hard_gain, table_of}
use Rattle.totals.proofs.SoftTotals.{soft_total}
use Rattle.totals.proofs.HardTotals.{hard_total}

-- of totals a constant above whole numbers the greatest has the greatest
answer_shift : (h m c : ℕ) (total : ℕ → ℕ) (z : ℕ → ℤ) → ((k : ℕ) → pos (total k) ≡ pos c +ℤ z k) → (a : Answer ℕ) →
    BestAnswer h m ◌≤◌ total a →
    BestAnswer h m AtMost z (record { message = a.message; value = pos a.value -ℤ pos c; tied = a.tied })
answer_shift h m c total z above a p =
    let w : ℤ = pos a.value -ℤ pos c in
    let e : pos a.value ≡ pos c +ℤ w = shift_difference a.value c in
    best_answer_map h m ◌≤◌ total AtMost z a w p (λ k. shift_le (total k) a.value c (z k) w (above k) e)
    (λ k. shift_equal (total k) a.value c (z k) w (above k) e)

-- of totals that distances complete to a constant the greatest has the least
answer_rest : (h m c : ℕ) (total far : ℕ → ℕ) → ((k : ℕ) → total k + far k ≡ c) → (a : Answer ℕ) →
    BestAnswer h m ◌≤◌ total a →
    BestAnswer h m AtLeast far (record { message = a.message; value = c - a.value; tied = a.tied })
answer_rest h m c total far whole a p =
    let low : a.value ≤ c = omega (arith, p.best.attained, whole (label_of h m a.message)) in
    best_answer_map h m ◌≤◌ total AtLeast far a (c - a.value) p (λ k t. omega (arith, whole k))
    (λ k. (λ e. omega (arith, e, whole k), λ e. omega (arith, e, whole k)))

pub loud_of_totals : (h m : ℕ) (ys : List ℤ) (a : Answer ℕ) → 1 ≤ h → h ≤ 2 → ((k : ℕ) → mag (entry ys k) < raise_by) →
    BestAnswer h m ◌≤◌ (total_of h m (table_of h m (soft_gain h ys))) a → Loud h m ys
    (record { message = a.message; value = pos a.value -ℤ pos (carriers m * raise_by); tied = a.tied })
loud_of_totals h m ys a one two small =
    answer_shift h m (carriers m * raise_by) (total_of h m (table_of h m (soft_gain h ys))) (correlation h m ys)
    (λ k. soft_total h ys small m k one two) a

pub near_of_totals : (h m : ℕ) (w : List ℕ) (a : Answer ℕ) → 1 ≤ h →
    ((i : ℕ) → i < carriers m → symbol_at w i < phases h) →
    BestAnswer h m ◌≤◌ (total_of h m (table_of h m (hard_gain h w))) a →
    Near h m w (record { message = a.message; value = carriers m * half_turn h - a.value; tied = a.tied })
near_of_totals h m w a one inside =
    answer_rest h m (carriers m * half_turn h) (total_of h m (table_of h m (hard_gain h w))) (distance_to h m w)
    (λ k. hard_total h m w k one inside) a
