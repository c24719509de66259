-- What is known of what is received once the gains of all symbols at all places are asked for.
-- Defines:  IsSeen n q P       P holds of each place below n and each symbol below q
--           small_at h ys i s  the soft value that symbol s adds at place i, in the first half turn, is a sixteen-bit
--                              number
-- Laws: Found.antt.  Assumes nothing: these are definitions.
use Rattle.std.specs.Prelude.{ℕ, ◌+◌, ◌*◌, ◌<◌, List, ℤ}
use Rattle.std.specs.Int.Signed.{mag}
use Rattle.range.specs.Signed.{entry}
use Rattle.rules.specs.Shape.{half_turn}
use Rattle.totals.specs.Gains.{raise_by}

abbrev pub IsSeen : ℕ → ℕ → (ℕ → ℕ → Type 0) → Type 0
IsSeen n q P = (i s : ℕ) → i < n → s < q → P i s

abbrev pub small_at : ℕ → List ℤ → ℕ → ℕ → Type 0
small_at h ys i s = s < half_turn h → mag (entry ys (half_turn h * i + s)) < raise_by
