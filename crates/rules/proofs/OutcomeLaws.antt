-- Laws of outcomes: rules' Outcome. In order: what is given is not refused, and is one thing; where something is
-- given, no test of the table held, and no place was found, and back; a claim about an outcome, test by test; a test
-- after others, and two tests of one number; only one outcome is answered.  Assumes nothing.
use Prim.Native.Nat.{ℕ}
use native.Mathlib.Omega.{arith}
use mathlib.Core.Path.{◌≡◌, refl, sym, ◌∙◌, ap}
use mathlib.Core.Bool.{Bool, true, false, ◌||◌}
use mathlib.Core.List.{List, [], ◌∷◌}
use mathlib.Core.Option.{Option, none, some}
use Rattle.rules.specs.Outcome.{Outcome, gives, refuses, and_then, refuse, refuse_at, OutcomeOf}

module _ {A : Type 0} where
  pub gives_not_refuses : {a : A} {k : ℕ} {v : List ℕ} → gives a ≡ refuses k v → ⊥
  gives_not_refuses e = let z : ◌≡◌ {A = ℕ} 0 1 = cc in omega arith

  pub gives_inj : {a b : A} → gives a ≡ gives b → a ≡ b
  gives_inj e = cc

  pub refuse_gives : (k : ℕ) (t : Bool) (o : Outcome A) (a : A) → refuse k t o ≡ gives a → (t ≡ false) × (o ≡ gives a)
  refuse_gives k true o a e = absurd (gives_not_refuses (sym e))
  refuse_gives k false o a e = (refl, e)

  pub refuse_at_gives : (k : ℕ) (f : Option ℕ) (more : List ℕ) (o : Outcome A) (a : A) →
      refuse_at k f more o ≡ gives a → (f ≡ none) × (o ≡ gives a)
  refuse_at_gives k none more o a e = (refl, e)
  refuse_at_gives k (some i) more o a e = absurd (gives_not_refuses (sym e))

  -- and a test that does not hold, or finds no place, leaves what stands behind it
  pub refuse_passed : (k : ℕ) {t : Bool} (o : Outcome A) → t ≡ false → refuse k t o ≡ o
  refuse_passed k o e = ap (λ (t : Bool). refuse k t o) e

  pub refuse_at_passed : (k : ℕ) {f : Option ℕ} (more : List ℕ) (o : Outcome A) → f ≡ none → refuse_at k f more o ≡ o
  refuse_at_passed k more o e = ap (λ (f : Option ℕ). refuse_at k f more o) e

  -- a claim holds of an outcome where it holds whichever way its first test goes
  pub refuse_cases : (P : Outcome A → Type 0) (k : ℕ) (t : Bool) (o : Outcome A) →
      (t ≡ true → P (refuses k [])) → (t ≡ false → P o) → P (refuse k t o)
  refuse_cases P k true o held passed = held refl
  refuse_cases P k false o held passed = passed refl

  pub refuse_at_cases : (P : Outcome A → Type 0) (k : ℕ) (f : Option ℕ) (more : List ℕ) (o : Outcome A) →
      ((i : ℕ) → f ≡ some i → P (refuses k (i ∷ more))) → (f ≡ none → P o) → P (refuse_at k f more o)
  refuse_at_cases P k (some i) more o found passed = found i refl
  refuse_at_cases P k none more o found passed = passed refl

  -- a test that comes after others stands behind them
  pub and_then_refuse : (k : ℕ) (t : Bool) (r : Outcome (Unit {0})) (o : Outcome A) →
      and_then (refuse k t r) o ≡ refuse k t (and_then r o)
  and_then_refuse k true r o = refl
  and_then_refuse k false r o = refl

  pub and_then_refuse_at : (k : ℕ) (f : Option ℕ) (more : List ℕ) (r : Outcome (Unit {0})) (o : Outcome A) →
      and_then (refuse_at k f more r) o ≡ refuse_at k f more (and_then r o)
  and_then_refuse_at k (some i) more r o = refl
  and_then_refuse_at k none more r o = refl

  -- two tests of one number are one test
  pub refuse_or : (k : ℕ) (s t : Bool) (o : Outcome A) → refuse k (s || t) o ≡ refuse k s (refuse k t o)
  refuse_or k true t o = refl
  refuse_or k false t o = refl

  -- what tests refuse is refused, whatever stands behind them
  pub and_then_refused : {r : Outcome (Unit {0})} {k : ℕ} {v : List ℕ} (o : Outcome A) → refuses k v ≡ r →
      refuses k v ≡ and_then r o
  and_then_refused o e = ap (λ (x : Outcome (Unit {0})). and_then x o) e

-- only one outcome is answered, where only one answer is right
module _ {A : Type 0} (r : Outcome (Unit {0})) (Right : A → Type 0) where
  pub outcome_of_unique : ((a b : A) → Right a → Right b → a ≡ b) → (o u : Outcome A) → OutcomeOf r Right o →
      OutcomeOf r Right u → o ≡ u
  outcome_of_unique alone (gives a) (gives b) p q = let e = alone a b p.right q.right in cc
  outcome_of_unique alone (gives a) (refuses k v) p q = absurd (gives_not_refuses (sym p.taken ∙ q))
  outcome_of_unique alone (refuses k v) (gives a) p q = absurd (gives_not_refuses (sym q.taken ∙ p))
  outcome_of_unique alone (refuses k v) (refuses j w) p q = let e = sym p ∙ q in cc
