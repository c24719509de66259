-- `lines::run` lends all of its text: an array has as many bytes as it is made with.
-- Assumes nothing.
use Prim.Native.Nat.{ℕ}
use mathlib.Core.Path.{sym}
use lib.ListN.{length-replicate}
use Rattle.lines.proofs.run.Goals as goal

-- with the level written out, the checker compares the two lists and computes neither
pub slice_bounds-read-end : goal.slice_bounds-read-end
slice_bounds-read-end c _ = sym (length-replicate {0} {A = ℕ} 2097153 0)
