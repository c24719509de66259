-- What a call answers, in 01's terms.
-- Defines:  Outcome A               a call gives a value, or refuses with a number of 01's table and the numbers that
--                                   the refusal carries
--           allowed                 nothing is refused
--           leaves o old new        new where o gives, old where o refuses
--           and_then r o            o where r refuses nothing, else r's refusal
--           refuse k test o         refusal k where the test holds, else o
--           refuse_at k found more o refusal k with the place found, and more behind it, else o
--           Answered r Right a      a is answered: r refuses nothing, and a is right
--           OutcomeOf r Right o     o is the outcome of a call that refuses what r refuses, and else answers what is
--                                   right: each call that answers by a relation says which r and which Right
-- Laws: proofs/OutcomeLaws.antt (only one outcome is answered, where only one answer is right).
-- Assumes nothing: these are definitions.
use Rattle.std.specs.Prelude.{ℕ, ◌≡◌, Bool, true, false, List, [], ◌∷◌}
use Rattle.std.proofs.Math.Option.{Option, none, some}

pub data Outcome (A : Type 0) : Type 0 where
  gives : A → Outcome A
  refuses : ℕ → List ℕ → Outcome A

abbrev pub allowed : Outcome (Unit {0})
allowed = gives tt

abbrev pub leaves : {A B : Type 0} → Outcome A → B → B → B
leaves (gives a) old new = new
leaves (refuses k v) old new = old

abbrev pub and_then : {A : Type 0} → Outcome (Unit {0}) → Outcome A → Outcome A
and_then (gives a) o = o
and_then (refuses k v) o = refuses k v

module _ {A : Type 0} where
  abbrev pub refuse : ℕ → Bool → Outcome A → Outcome A
  refuse k true o = refuses k []
  refuse k false o = o

  abbrev pub refuse_at : ℕ → Option ℕ → List ℕ → Outcome A → Outcome A
  refuse_at k (some i) more o = refuses k (i ∷ more)
  refuse_at k none more o = o

pub record Answered {A : Type 0} (r : Outcome (Unit {0})) (Right : A → Type 0) (a : A) : Type 0 where
  pub taken : r ≡ allowed
  pub right : Right a

abbrev pub OutcomeOf : {A : Type 0} → Outcome (Unit {0}) → (A → Type 0) → Outcome A → Type 0
OutcomeOf r Right (gives a) = Answered r Right a
OutcomeOf r Right (refuses k carried) = r ≡ refuses k carried
