-- Tables of gains: specs' Gains and Totals. In order: what a symbol gains at a place; the total of a label.
-- Not here: which gains there are (SoftTotals, HardTotals).  Assumes nothing.
use Prim.Native.Nat.{ℕ, ◌+◌, ◌*◌, ◌/◌, ◌%◌, ◌<◌}
use mathlib.Core.Path.{◌≡◌, ◌∙◌}
use lib.Arith.{digits_lt, digits_div, digits_mod}
use Rattle.range.specs.Below.{sum_below}
use Rattle.range.proofs.Lists.{list_below_at}
use Rattle.range.proofs.Sums.{sum_below_cong}
use Rattle.rules.specs.Shape.{phases, carriers}
use Rattle.rules.specs.Word.{word_at}
use Rattle.rules.proofs.SymbolLaws.{word_at_lt}
use Rattle.totals.specs.Totals.{gain_at, total_of}
use Rattle.totals.specs.Gains.{table_of}

table_of_at : (h m : ℕ) (f : ℕ → ℕ → ℕ) (i s : ℕ) → i < carriers m → s < phases h →
    gain_at (carriers m) (table_of h m f) i s ≡ f i s
unfolding table_of
table_of_at h m f i s a b =
    list_below_at (phases h * carriers m) (λ e. f (e % carriers m) (e / carriers m)) (s * carriers m + i) 0
    (digits_lt b a)
    ∙ rw (digits_mod s a, digits_div s a)

pub total_of_table : (h m : ℕ) (f : ℕ → ℕ → ℕ) (l : ℕ) →
    total_of h m (table_of h m f) l ≡ sum_below (carriers m) (λ i. f i (word_at h m l i))
unfolding total_of
total_of_table h m f l =
    sum_below_cong (carriers m) _ (λ i. f i (word_at h m l i))
    (λ i b. table_of_at h m f i (word_at h m l i) b (word_at_lt h m l i))
