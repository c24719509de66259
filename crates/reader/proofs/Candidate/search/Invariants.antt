-- `Candidate::search` meets its contract: the word determines its message, so the first path that fits gives the
-- message, and where none fits no message has the word.
-- Invariant: no path before n fits.  Assumes nothing.
use Prim.Native.Nat.{ℕ, ◌<◌}
use mathlib.Core.Path.{◌≡◌}
use Rattle.rules.specs.Label.{message_of}
use Rattle.rules.specs.Word.{word_of}
use Rattle.reader.specs.Shown.{label_with}
use Rattle.reader.proofs.Candidate.search.Given as goal

abbrev pub invariant-loop-n : goal.invariant-loop-n
invariant-loop-n l =
    let h = l.self.shape.h in
    let m = l.self.shape.m in
    let w = l.self.word.now in
    (k : ℕ) → k < l.n → word_of h m (message_of h m (label_with h m w k)) ≡ w → ⊥
