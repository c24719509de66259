-- Laws of tests one behind the other: code asks test after test, and the rules nest them. In order: a test that refuses
-- ends what it stands before, and one that refuses nothing leaves it; the same of a search; a test behind others, as
-- one outcome.
-- Assumes nothing.
use Prim.Native.Nat.{ℕ}
use mathlib.Core.Path.{◌≡◌, refl, sym, ◌∙◌, ap}
use mathlib.Core.Bool.{Bool, true, false, cond}
use mathlib.Core.List.{List, []}
use mathlib.Core.Option.{Option, none, some}
use Rattle.rules.specs.Outcome.{Outcome, refuses, allowed, and_then, refuse, refuse_at}
use Rattle.rules.proofs.OutcomeLaws.{gives_not_refuses}
use Rattle.kinds.specs.declared.Refusal.{Refusal}
use Rattle.kinds.specs.Refusals.{refusal_told}

-- a test k that holds refuses as it does alone; one that does not is passed
module _ (k : ℕ) (t : Bool) (o : Outcome (Unit {0})) where
  pub stops : (e : Refusal) → refusal_told e ≡ refuse k t allowed → refusal_told e ≡ refuse k t o
  stops e p = elim t as (λ b. refusal_told e ≡ refuse k b allowed → refusal_told e ≡ refuse k b o)
      [ true ↦ λ q. q | false ↦ λ q. absurd (gives_not_refuses (sym q)) ] p

  pub passes : (x : Outcome (Unit {0})) → allowed ≡ refuse k t allowed → x ≡ o → x ≡ refuse k t o
  passes x p rest = elim t as (λ b. allowed ≡ refuse k b allowed → x ≡ refuse k b o)
      [ true ↦ λ q. absurd (gives_not_refuses q) | false ↦ λ q. rest ] p

module _ (k : ℕ) (f : Option ℕ) (more : List ℕ) (o : Outcome (Unit {0})) where
  pub stops_at : (e : Refusal) → refusal_told e ≡ refuse_at k f more allowed → refusal_told e ≡ refuse_at k f more o
  stops_at e p = elim f as (λ g. refusal_told e ≡ refuse_at k g more allowed → refusal_told e ≡ refuse_at k g more o)
      [ some i ↦ λ q. q | none ↦ λ q. absurd (gives_not_refuses (sym q)) ] p

  pub passes_at : (x : Outcome (Unit {0})) → allowed ≡ refuse_at k f more allowed → x ≡ o → x ≡ refuse_at k f more o
  passes_at x p rest = elim f as (λ g. allowed ≡ refuse_at k g more allowed → x ≡ refuse_at k g more o)
      [ some i ↦ λ q. absurd (gives_not_refuses q) | none ↦ λ q. rest ] p

-- the same as one outcome: a test behind those that have been put in the rules' words
cond_refuse : (k : ℕ) (t : Bool) → cond t (refuses k []) allowed ≡ refuse k t allowed
cond_refuse k true = refl
cond_refuse k false = refl

module _ {r asked before : Outcome (Unit {0})} where
  pub after : (o : Outcome (Unit {0})) → r ≡ and_then asked o → asked ≡ before → r ≡ and_then before o
  after o e b = e ∙ ap (λ (x : Outcome (Unit {0})). and_then x o) b

  pub after_test : (k : ℕ) {s t : Bool} → r ≡ and_then asked (cond s (refuses k []) allowed) → s ≡ t → asked ≡ before →
      r ≡ and_then before (refuse k t allowed)
  after_test k {s} {t} e p b =
      after (cond s (refuses k []) allowed) e b
      ∙ ap (and_then before) (ap (λ (u : Bool). cond u (refuses k []) allowed) p ∙ cond_refuse k t)
