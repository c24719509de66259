-- What each refusal carries: its number is not 0, and it carries numbers exactly where that is 3 or 7.
-- Defines:  placed k          whether refusal k carries a place: kinds 3 and 7
--           Numbered n k v     refusal k carries the numbers v: k is not 0, and v has n numbers where k carries a
--                             place, and else none. n is 1, and 2 for the pair check, which tells the word behind the
--                             place
--           Listed n o        where the outcome o refuses, that holds of its number and what it carries
-- In order: what an outcome is built of; the outcome of each call.
-- Not here: what follows for the number and the cells (Numbers).  Assumes nothing.
use Prim.Native.Nat.{ℕ, ◌<◌}
use mathlib.Core.Path.{◌≡◌, refl, subst}
use mathlib.Core.Bool.{Bool, true, false, cond, ◌||◌}
use mathlib.Core.List.{List, [], ◌∷◌}
use mathlib.Core.Option.{Option, none, some}
use lib.Dec.{T, eqb, ltb, lit<}
use lib.IntN.{ℤ}
use lib.ListN.{length}
use Rattle.rules.specs.Shape.{carriers}
use Rattle.rules.specs.Soft.{soft_length}
use Rattle.rules.specs.Outcome.{Outcome, gives, refuses, and_then, refuse, refuse_at, OutcomeOf}
use Rattle.rules.specs.Table.{bad_shape, bad_m, bad_length, short_area, bad_symbol, bad_message, message_with, octary}
use Rattle.rules.specs.Table.{bad_value}
use Rattle.rules.specs.Refusal.{send_refusal, pair_refusal, pair_outcome, refuse_word, word_refusal, or_no_word}
use Rattle.rules.specs.Refusal.{read_outcome, soft_refusal, hard_refusal}
use Rattle.rules.specs.Refusal.{transform_refusal}
use Rattle.rules.specs.Decoding.{SoftAnswer, HardAnswer, Loud, Near, SoftOutcome, HardOutcome}

abbrev pub placed : ℕ → Bool
placed k = eqb k 3 || eqb k 7

pub record Numbered (n k : ℕ) (v : List ℕ) : Type 0 where
  pub nonzero : 0 < k
  pub count : length v ≡ cond (placed k) n 0

-- of a number that is written out it holds by computing
numbered : {n k : ℕ} {v : List ℕ} → T (ltb 0 k) → length v ≡ cond (placed k) n 0 → Numbered n k v
numbered t e = record { nonzero = lit< t; count = e }

pub data Listed {A : Type 0} (n : ℕ) : Outcome A → Type 0 where
  given : {a : A} → Listed n (gives a)
  refused : {k : ℕ} {v : List ℕ} → Numbered n k v → Listed n (refuses k v)

pub listed_numbered : {A : Type 0} {n k : ℕ} {v : List ℕ} → Listed {A = A} n (refuses k v) → Numbered n k v
listed_numbered (refused r) = r

module _ {A : Type 0} {n : ℕ} {o : Outcome A} where
  refuse_listed : (k : ℕ) (t : Bool) → Numbered n k [] → Listed n o → Listed n (refuse k t o)
  refuse_listed k true r s = refused r
  refuse_listed k false r s = s

  refuse_at_listed : (k : ℕ) (f : Option ℕ) (more : List ℕ) → ((i : ℕ) → Numbered n k (i ∷ more)) → Listed n o →
      Listed n (refuse_at k f more o)
  refuse_at_listed k none more r s = s
  refuse_at_listed k (some i) more r s = refused (r i)

and_then_listed : {A : Type 0} {n : ℕ} {r : Outcome (Unit {0})} {o : Outcome A} → Listed n r → Listed n o →
    Listed n (and_then r o)
and_then_listed given s = s
and_then_listed (refused r) s = refused r

refuse_word_listed : {A : Type 0} {o : Outcome A} (h m : ℕ) (w : List ℕ) → Listed 1 o → Listed 1 (refuse_word h m w o)
refuse_word_listed h m w s =
    refuse_listed 2 (bad_length (length w) (carriers m)) (numbered tt refl)
    (refuse_at_listed 3 (bad_symbol h w) [] (λ i. numbered tt refl) s)

pub send_refusal_listed : (h m c g : ℕ) → Listed 1 (send_refusal h m c g)
unfolding send_refusal
send_refusal_listed h m c g =
    refuse_listed 1 (bad_shape h m) (numbered tt refl)
    (refuse_listed 2 (bad_length c (carriers m)) (numbered tt refl)
    (refuse_listed 4 (bad_message h m g) (numbered tt refl) given))

pub pair_outcome_listed : (h m : ℕ) (a b : List ℕ) → Listed 2 (pair_outcome h m a b)
unfolding pair_outcome pair_refusal
pair_outcome_listed h m a b =
    and_then_listed
    (refuse_listed 1 (bad_shape h m) (numbered tt refl)
    (refuse_listed 2 (bad_length (length a) (carriers m) || bad_length (length b) (carriers m)) (numbered tt refl)
    (refuse_at_listed 3 (bad_symbol h a) (1 ∷ []) (λ i. numbered tt refl)
    (refuse_at_listed 3 (bad_symbol h b) (2 ∷ []) (λ i. numbered tt refl) given))))
    given

or_no_word_listed : (g : Option ℕ) → Listed 1 (or_no_word g)
or_no_word_listed none = refused (numbered tt refl)
or_no_word_listed (some g) = given

pub read_outcome_listed : (h m : ℕ) (w : List ℕ) → Listed 1 (read_outcome h m w)
unfolding read_outcome word_refusal
read_outcome_listed h m w =
    and_then_listed (refuse_listed 1 (bad_shape h m) (numbered tt refl) (refuse_word_listed h m w given))
    (or_no_word_listed (message_with h m w))

soft_refusal_listed : (h m : ℕ) (ys : List ℤ) → Listed 1 (soft_refusal h m ys)
unfolding soft_refusal
soft_refusal_listed h m ys =
    refuse_listed 1 (bad_shape h m) (numbered tt refl)
    (refuse_listed 6 (octary h) (numbered tt refl)
    (refuse_listed 2 (bad_length (length ys) (soft_length h m)) (numbered tt refl) given))

hard_refusal_listed : (h m : ℕ) (w : List ℕ) → Listed 1 (hard_refusal h m w)
unfolding hard_refusal
hard_refusal_listed h m w =
    refuse_listed 1 (bad_shape h m) (numbered tt refl)
    (refuse_listed 6 (octary h) (numbered tt refl) (refuse_word_listed h m w given))

-- an outcome refuses what its refusals refuse
module _ {A : Type 0} {n : ℕ} {r : Outcome (Unit {0})} (l : Listed n r) (Right : A → Type 0) where
  outcome_of_listed : (o : Outcome A) → OutcomeOf r Right o → Listed n o
  outcome_of_listed (gives a) p = given
  outcome_of_listed (refuses k v) p = refused (listed_numbered (subst (Listed n) p l))

pub soft_outcome_listed : (h m : ℕ) (ys : List ℤ) (o : Outcome SoftAnswer) → SoftOutcome h m ys o → Listed 1 o
soft_outcome_listed h m ys = outcome_of_listed (soft_refusal_listed h m ys) (Loud h m ys)

pub hard_outcome_listed : (h m : ℕ) (w : List ℕ) (o : Outcome HardAnswer) → HardOutcome h m w o → Listed 1 o
hard_outcome_listed h m w = outcome_of_listed (hard_refusal_listed h m w) (Near h m w)

pub transform_refusal_listed : (m : ℕ) (a : List ℤ) (c : ℕ) → Listed 1 (transform_refusal m a c)
unfolding transform_refusal
transform_refusal_listed m a c =
    refuse_listed 1 (bad_m m) (numbered tt refl)
    (refuse_listed 2 (short_area (length a) m || short_area c m) (numbered tt refl)
    (refuse_at_listed 7 (bad_value m a) [] (λ i. numbered tt refl) given))
