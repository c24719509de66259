-- A table of gains (totals, specs/Gains.antt), filled number after number.
-- In order: number e of a table, its gain, and a fact about its place and its symbol; the table once it is filled.
-- Not here: what a filled table holds (totals, GainTables), which gains there are (totals, SoftTotals, HardTotals).
-- Assumes nothing.
use Prim.Native.Nat.{ℕ, ◌+◌, ◌*◌, ◌/◌, ◌%◌, ◌<◌}
use mathlib.Core.Path.{◌≡◌}
use mathlib.Core.List.{List}
use lib.ListN.{length}
use lib.Arith.{digits_div, digits_mod, digits_lt}
use Rattle.rules.specs.Shape.{phases, carriers}
use Rattle.totals.specs.Gains.{table_of}
use Rattle.decoder.specs.Seen.{IsSeen}
use Rattle.engine.proofs.Pieces.{Laid, written_all}

abbrev pub gain_of : ℕ → (ℕ → ℕ → ℕ) → ℕ → ℕ
gain_of m f e = f (e % carriers m) (e / carriers m)

-- the same of a fact about a place and a symbol
abbrev pub at_number : ℕ → (ℕ → ℕ → Type 0) → ℕ → Type 0
at_number m P e = P (e % carriers m) (e / carriers m)

pub all_seen : (h m : ℕ) (P : ℕ → ℕ → Type 0) → ((e : ℕ) → e < phases h * carriers m → at_number m P e) →
    IsSeen (carriers m) (phases h) P
all_seen h m P read i s a b = rw (digits_div s a, digits_mod s a) at (read (s * carriers m + i) (digits_lt b a))

-- a table whose numbers are all written
pub table_written : (h m : ℕ) (f : ℕ → ℕ → ℕ) (t : List ℕ) → length t ≡ phases h * carriers m →
    Laid (gain_of m f) t (length t) → t ≡ table_of h m f
unfolding table_of
table_written h m f t long w = written_all (gain_of m f) t (phases h * carriers m) long (rw long at w)
