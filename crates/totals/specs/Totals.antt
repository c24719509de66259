-- Gains and totals. A table of gains is a list of natural numbers: for each symbol a run of N, what the symbol gains at
-- each place. The total of a label is what the symbols of its word gain, over all places.
-- Defines:  gain_at n g i s    what symbol s gains at place i, in a table g whose runs are n long
--           total_of h m g l   the total of label l
-- Laws: proofs/Totals.antt.  Assumes nothing: these are definitions.
use Rattle.std.specs.Prelude.{ℕ, ◌+◌, ◌*◌, List, get_or}
use Rattle.range.specs.Below.{sum_below}
use Rattle.rules.specs.Shape.{carriers}
use Rattle.rules.specs.Word.{word_at}

abbrev pub gain_at : ℕ → List ℕ → ℕ → ℕ → ℕ
gain_at n g i s = get_or g (s * n + i) 0

unfoldable pub total_of : ℕ → ℕ → List ℕ → ℕ → ℕ
total_of h m g l = sum_below (carriers m) (λ i. gain_at (carriers m) g i (word_at h m l i))
