-- What each refusal tells, in the terms of document 01: its number in the table, and the numbers that it carries.
-- Defines:  refusal_says r      a refusal's number in the table, and the numbers that it carries: the first bad place
--                               of kinds 3 and 7, and behind it, in the pair check, the word that it stands in
--           refusal_number r, refusal_carries r  the one and the others
--           refusal_told r      the refusal as an outcome (rules, specs/Outcome.antt)
--           told f r            what the answer r of a call tells: f of what it gives, or its refusal
--           Judged, judged_told r  the type of the answer of a call that gives nothing, or only asks; what it tells
-- Each promise of a call speaks of its answer through these. Laws: proofs/RefusalLaws.antt.
-- Assumes nothing: these are definitions.
use Rattle.std.specs.Prelude.{ℕ, List, [], ◌∷◌, Result, Ok, Err}
use Rattle.rules.specs.Outcome.{Outcome, gives, refuses}
use Rattle.kinds.specs.declared.Refusal.{Refusal}
use Rattle.kinds.specs.declared.Refusal.TheVariants.{Shape, Length, Symbol, SymbolIn, Message, NoWord, Octary}
use Rattle.kinds.specs.declared.Refusal.TheVariants.{Value}

abbrev pub refusal_says : Refusal → ℕ × List ℕ
refusal_says Shape = (1, [])
refusal_says Length = (2, [])
refusal_says (Symbol p) = (3, p.0 ∷ [])
refusal_says (SymbolIn w p) = (3, p.0 ∷ w.0 ∷ [])
refusal_says Message = (4, [])
refusal_says NoWord = (5, [])
refusal_says Octary = (6, [])
refusal_says (Value p) = (7, p.0 ∷ [])

abbrev pub refusal_number : Refusal → ℕ
refusal_number r = (refusal_says r).0

abbrev pub refusal_carries : Refusal → List ℕ
refusal_carries r = (refusal_says r).1

abbrev pub refusal_told : {A : Type 0} → Refusal → Outcome A
refusal_told r = refuses (refusal_number r) (refusal_carries r)

abbrev pub told : {A B : Type 0} → (A → B) → Result A Refusal → Outcome B
told f (Ok a) = gives (f a)
told f (Err r) = refusal_told r

abbrev pub Judged : Type 0
Judged = Result (Unit {0}) Refusal

abbrev pub judged_told : Judged → Outcome (Unit {0})
judged_told r = told (λ u. u) r
