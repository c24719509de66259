-- What an answer of word reading says, in the terms of document 01: the message number, or the refusal.
-- Defines:  Reading          the type of an answer
--           reading_told r   the answer, as an outcome (rules, specs/Outcome.antt)
-- The promise of `read` speaks of its answer through it.  Assumes nothing: these are definitions.
use Rattle.std.specs.Prelude.{ℕ, Result}
use Rattle.rules.specs.Outcome.{Outcome}
use Rattle.kinds.specs.declared.MessageNumber.{MessageNumber}
use Rattle.kinds.specs.declared.Refusal.{Refusal}
use Rattle.kinds.specs.Refusals.{told}

abbrev pub Reading : Type 0
Reading = Result MessageNumber Refusal

abbrev pub reading_told : Reading → Outcome ℕ
reading_told r = told (λ g. g.0) r
