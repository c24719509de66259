-- A refusal can be read back from what it tells, so what it tells determines it.
-- In order: reading back, from one list in the order of the table; its law; how much a refusal carries; refusals that
-- tell the same are equal; a refusal handed on; an answer that is given; answers that tell the same are equal, and of
-- these the ones that give nothing.  Assumes nothing.
use Prim.Native.Nat.{ℕ, ◌-◌, ◌≤◌}
use mathlib.Core.Path.{◌≡◌, refl, sym, ◌∙◌, ap}
use mathlib.Core.List.{List, [], ◌∷◌}
use lib.Dec.{lit≤}
use lib.ListN.{length, get_or}
use Rattle.std.specs.Prelude.{Result, Ok, Err, IsOk}
use Rattle.rules.specs.Outcome.{Outcome, gives, refuses}
use Rattle.rules.proofs.OutcomeLaws.{gives_not_refuses, gives_inj}
use Rattle.kinds.specs.declared.Refusal.{Refusal}
use Rattle.kinds.specs.declared.Refusal.TheVariants.{Shape, Length, Symbol, SymbolIn, Message, NoWord, Octary}
use Rattle.kinds.specs.declared.Refusal.TheVariants.{Value}
use Rattle.kinds.specs.Refusals.{refusal_number, refusal_carries, refusal_told, told, Judged, judged_told}

-- a refusal 3 alone, and in a word of the pair check
symbol_back : List ℕ → Refusal
symbol_back [] = Symbol (record { 0 = 0 })
symbol_back (i ∷ []) = Symbol (record { 0 = i })
symbol_back (i ∷ (w ∷ v)) = SymbolIn (record { 0 = w }) (record { 0 = i })

refusal_back : ℕ → List ℕ → Refusal
refusal_back k v =
    get_or
    (Shape ∷ Length ∷ symbol_back v ∷ Message ∷ NoWord ∷ Octary ∷ Value (record { 0 = get_or v 0 0 }) ∷ [])
    (k - 1)
    Shape

refusal_back_told : (r : Refusal) → refusal_back (refusal_number r) (refusal_carries r) ≡ r
unfolding refusal_back symbol_back
refusal_back_told Shape = refl
refusal_back_told Length = refl
refusal_back_told (Symbol p) = refl
refusal_back_told (SymbolIn w p) = refl
refusal_back_told Message = refl
refusal_back_told NoWord = refl
refusal_back_told Octary = refl
refusal_back_told (Value p) = refl

-- a place, and the word behind it, are all that is carried
pub carries_two : (r : Refusal) → length (refusal_carries r) ≤ 2
carries_two Shape = lit≤ tt
carries_two Length = lit≤ tt
carries_two (Symbol p) = lit≤ tt
carries_two (SymbolIn w p) = lit≤ tt
carries_two Message = lit≤ tt
carries_two NoWord = lit≤ tt
carries_two Octary = lit≤ tt
carries_two (Value p) = lit≤ tt

-- read back from an outcome; what is given is no refusal
outcome_back : {A : Type 0} → Outcome A → Refusal
outcome_back (gives a) = Shape
outcome_back (refuses k v) = refusal_back k v

pub refusal_told_inj : {A : Type 0} (r s : Refusal) → refusal_told {A = A} r ≡ refusal_told s → r ≡ s
unfolding outcome_back
refusal_told_inj r s e = sym (refusal_back_told r) ∙ ap outcome_back e ∙ refusal_back_told s

-- a refusal that is handed on tells what it told
pub handed_on : {A B : Type 0} (f : A → B) (r : Result A Refusal) (e : Refusal) {o : Outcome B} → r ≡ Err e →
    refusal_told e ≡ o → told f r ≡ o
handed_on f r e p q = ap (told f) p ∙ q

-- where nothing is refused something is given
pub given_ok : {A B : Type 0} (f : A → B) (r : Result A Refusal) {b : B} → told f r ≡ gives b → IsOk r
given_ok f (Ok a) e = refl
given_ok f (Err s) e = absurd (gives_not_refuses (sym e))

-- answers that tell the same are equal, where what they give can be read back from what it tells
module _ {A B : Type 0} (f : A → B) (back : B → A) (f_back : (a : A) → back (f a) ≡ a) where
  pub told_inj : (r s : Result A Refusal) → told f r ≡ told f s → r ≡ s
  told_inj (Ok a) (Ok b) e = ap Ok (sym (f_back a) ∙ ap back (gives_inj e) ∙ f_back b)
  told_inj (Ok a) (Err s) e = absurd (gives_not_refuses e)
  told_inj (Err r) (Ok b) e = absurd (gives_not_refuses (sym e))
  told_inj (Err r) (Err s) e = ap Err (refusal_told_inj r s e)

pub judged_told_inj : (r s : Judged) → judged_told r ≡ judged_told s → r ≡ s
judged_told_inj = told_inj (λ u. u) (λ u. u) (λ u. refl)
