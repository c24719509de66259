-- What each answer of the pair check says, in the terms of document 01.
-- Defines:  Paired          the type of an answer: whether the words are a pair, or the refusal
--           paired_told r   the answer, as an outcome (rules, specs/Outcome.antt)
-- The promise of `check` speaks of its answer through it.  Assumes nothing: these are definitions.
use Rattle.std.specs.Prelude.{Bool, Result}
use Rattle.rules.specs.Outcome.{Outcome}
use Rattle.kinds.specs.declared.Refusal.{Refusal}
use Rattle.kinds.specs.Refusals.{told}

abbrev pub Paired : Type 0
Paired = Result Bool Refusal

abbrev pub paired_told : Paired → Outcome Bool
paired_told r = told (λ b. b) r
