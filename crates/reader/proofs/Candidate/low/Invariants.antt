-- `Candidate::low` meets its contract: each turn takes one coefficient more, c_1 first.
-- Invariant: number is the coefficients up to k, in base 2^h.  Assumes nothing.
use mathlib.Core.Path.{◌≡◌}
use Rattle.reader.specs.Shown.{shown_up_to}
use Rattle.reader.proofs.Candidate.low.Given as goal

abbrev pub invariant-loop-k : goal.invariant-loop-k
invariant-loop-k l = l.number ≡ shown_up_to l.self.shape.h l.self.shape.m l.self.word.now l.k
