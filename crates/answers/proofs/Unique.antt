-- Only one answer keeps the promise of soft decoding, and of hard decoding, whoever decodes. In order: what an answer
-- tells determines it; soft decoding: its answer is unique, and found where nothing is refused; the same of hard
-- decoding.
-- Not here: that only one outcome is answered (rules, DecodingLaws).  Assumes nothing.
use Prim.Native.Nat.{ℕ}
use mathlib.Core.Path.{◌≡◌, refl, sym, ◌∙◌}
use mathlib.Core.List.{List}
use lib.IntN.{ℤ}
use Rattle.std.specs.Prelude.{Result, Ok, Err}
use Rattle.rules.specs.Outcome.{Outcome, allowed, OutcomeOf}
use Rattle.rules.specs.Decoding.{Answer, Loud, Near}
use Rattle.rules.specs.Refusal.{soft_refusal, hard_refusal}
use Rattle.rules.proofs.OutcomeLaws.{gives_not_refuses}
use Rattle.rules.proofs.DecodingLaws.{soft_outcome_unique, hard_outcome_unique}
use Rattle.kinds.specs.declared.Refusal.{Refusal}
use Rattle.kinds.specs.Refusals.{told}
use Rattle.kinds.proofs.RefusalLaws.{told_inj}
use Rattle.answers.specs.declared.Found.{Found}
use Rattle.answers.specs.Decoded.{Loudest, Closest, Heard, Matched, loudest_told, closest_told, heard_told}
use Rattle.answers.specs.Decoded.{matched_told, Hears, Matches}

-- what is found, read back from what it tells
abbrev found_of : {V : Type 0} → Answer V → Found V
found_of a = record { message = record { 0 = a.message }; value = a.value; tied = a.tied }

pub heard_told_inj : (r s : Heard) → heard_told r ≡ heard_told s → r ≡ s
heard_told_inj = told_inj loudest_told found_of (λ a. refl)

pub matched_told_inj : (r s : Matched) → matched_told r ≡ matched_told s → r ≡ s
matched_told_inj = told_inj closest_told found_of (λ a. refl)

-- where nothing is refused something is found
module _ {A B : Type 0} (f : A → B) {o : Outcome (Unit {0})} (Right : B → Type 0) where
  found : (r : Result A Refusal) → OutcomeOf o Right (told f r) → o ≡ allowed → (a : A) × (r ≡ Ok a)
  found (Ok a) p e = (a, refl)
  found (Err s) p e = absurd (gives_not_refuses (sym e ∙ p))

module _ (h m : ℕ) (ys : List ℤ) where
  -- two answers that both keep the promise are one
  pub hears_unique : (r s : Heard) → Hears h m ys r → Hears h m ys s → r ≡ s
  hears_unique r s p q = heard_told_inj r s (soft_outcome_unique h m ys (heard_told r) (heard_told s) p q)

  -- where nothing is refused a message is answered
  pub hears_found : (r : Heard) → Hears h m ys r → soft_refusal h m ys ≡ allowed → (a : Loudest) × (r ≡ Ok a)
  hears_found = found loudest_told (Loud h m ys)

module _ (h m : ℕ) (w : List ℕ) where
  pub matches_unique : (r s : Matched) → Matches h m w r → Matches h m w s → r ≡ s
  matches_unique r s p q = matched_told_inj r s (hard_outcome_unique h m w (matched_told r) (matched_told s) p q)

  pub matches_found : (r : Matched) → Matches h m w r → hard_refusal h m w ≡ allowed → (a : Closest) × (r ≡ Ok a)
  matches_found = found closest_told (Near h m w)
