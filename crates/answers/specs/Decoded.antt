-- What the answers of soft and hard decoding say, in the terms of document 01, and their promises over it.
-- Defines:  Loudest, Closest, Heard, Matched  the types of what is found and of the answers, as code names them
--           loudest_told a, closest_told a  what is found, with its message number as a number
--           heard_told r     an answer of soft decoding, as an outcome
--           matched_told r   an answer of hard decoding
--           Hears h m ys r, Matches h m w r  the promises: rules' SoftOutcome and HardOutcome of what is told
-- Laws: proofs/Unique.antt (only one answer satisfies each).  Assumes nothing: these are definitions.
use Rattle.std.specs.Prelude.{ℕ, List, ℤ, Result}
use Rattle.rules.specs.Outcome.{Outcome}
use Rattle.rules.specs.Decoding.{SoftAnswer, HardAnswer, SoftOutcome, HardOutcome}
use Rattle.kinds.specs.declared.Refusal.{Refusal}
use Rattle.kinds.specs.Refusals.{told}
use Rattle.answers.specs.declared.Found.{Found}

abbrev pub Loudest : Type 0
Loudest = Found ℤ

abbrev pub Closest : Type 0
Closest = Found ℕ

abbrev pub Heard : Type 0
Heard = Result Loudest Refusal

abbrev pub Matched : Type 0
Matched = Result Closest Refusal

abbrev pub loudest_told : Loudest → SoftAnswer
loudest_told a = record { message = a.message.0; value = a.value; tied = a.tied }

abbrev pub closest_told : Closest → HardAnswer
closest_told a = record { message = a.message.0; value = a.value; tied = a.tied }

abbrev pub heard_told : Heard → Outcome SoftAnswer
heard_told r = told loudest_told r

abbrev pub matched_told : Matched → Outcome HardAnswer
matched_told r = told closest_told r

abbrev pub Hears : ℕ → ℕ → List ℤ → Heard → Type 0
Hears h m ys r = SoftOutcome h m ys (heard_told r)

abbrev pub Matches : ℕ → ℕ → List ℕ → Matched → Type 0
Matches h m w r = HardOutcome h m w (matched_told r)
