-- What soft and hard decoding tell is exactly what the rows of their tables say (specs/Rows.antt). In order: the row
-- of an outcome; soft decoding: the row of each outcome, and the outcome of each row; the same of hard decoding.
-- Not here: the other calls (Rows, PairRows, TransformRows).  Assumes nothing.
use Prim.Native.Nat.{ℕ}
use mathlib.Core.Path.{◌≡◌, sym, subst}
use mathlib.Core.List.{List, []}
use mathlib.Core.Logic.{◌↔◌}
use lib.IntN.{ℤ}
use lib.ListN.{length}
use borrow.Author.Tests.{eqb-true, eqb-false, eq-eqb, ne_eqb, not-true, not-false}
use Rattle.rules.specs.Shape.{carriers}
use Rattle.rules.specs.Soft.{soft_length}
use Rattle.rules.specs.Outcome.{Outcome, gives, refuses, OutcomeOf}
use Rattle.rules.specs.Table.{bad_shape, bad_length, bad_symbol, octary}
use Rattle.rules.specs.Refusal.{soft_refusal, hard_refusal}
use Rattle.rules.specs.Decoding.{SoftAnswer, HardAnswer, Loud, Near, SoftOutcome, HardOutcome}
use Rattle.rules.proofs.OutcomeLaws.{refuse_cases, refuse_at_cases}
use Rattle.rules.proofs.RefusalLaws.{few_phases, soft_allowed, hard_allowed}
use Rattle.rules.proofs.SymbolLaws.{symbols_of_none}
use Rattle.rules.proofs.DecodingLaws.{soft_outcome_unique, hard_outcome_unique}
use Rattle.theorems.specs.Rows.{SoftRow, soft_1, soft_6, soft_2, soft_gives}
use Rattle.theorems.specs.Rows.{HardRow, hard_1, hard_6, hard_2, hard_3, hard_gives}
use Rattle.theorems.proofs.Rows.{exactly, first_too_great_of, first_too_great_is}

-- the rows that a refusal leaves: its own, or that of every right answer where nothing is refused
abbrev RowsOf : {A : Type 0} → (Outcome A → Type 0) → (A → Type 0) → Outcome (Unit {0}) → Type 0
RowsOf {A} Row Right (gives u) = (a : A) → Right a → Row (gives a)
RowsOf Row Right (refuses k v) = Row (refuses k v)

module _ {A : Type 0} (Row : Outcome A → Type 0) (Right : A → Type 0) (r : Outcome (Unit {0}))
    (rows : RowsOf Row Right r) where
  row_of_outcome : (o : Outcome A) → OutcomeOf r Right o → Row o
  row_of_outcome (gives a) p = subst (RowsOf Row Right) p.taken rows a p.right
  row_of_outcome (refuses k v) p = subst (RowsOf Row Right) p rows

module _ (h m : ℕ) (ys : List ℤ) where
  soft_rows : RowsOf (SoftRow h m ys) (Loud h m ys) (soft_refusal h m ys)
  unfolding soft_refusal
  soft_rows =
      let P = RowsOf (SoftRow h m ys) (Loud h m ys) in
      let long = eqb-true (length ys) (soft_length h m) in
      refuse_cases P 1 (bad_shape h m) _ (λ s. soft_1 (not-true _ s)) (λ s.
      refuse_cases P 6 (octary h) _ (λ t. soft_6 (not-false _ s) (eqb-true h 3 t)) (λ t.
      refuse_cases P 2 (bad_length (length ys) (soft_length h m)) _
      (λ l. soft_2 (not-false _ s) (eqb-false h 3 t) (eqb-false (length ys) (soft_length h m) (not-true _ l)))
      (λ l a. soft_gives a (not-false _ s) (eqb-false h 3 t) (long (not-false _ l)))))

  soft_of_row : {o : Outcome SoftAnswer} → SoftRow h m ys o → SoftOutcome h m ys o
  unfolding soft_refusal
  soft_of_row (soft_1 s) = rw s
  soft_of_row (soft_6 s t) = rw (s, eq-eqb h 3 t)
  soft_of_row (soft_2 s t l) = rw (s, ne_eqb h 3 t, ne_eqb (length ys) (soft_length h m) l)
  soft_of_row (soft_gives a s t l r) = record {
    taken = soft_allowed h m ys (record { shape = s; few = few_phases h m s t; long = l });
    right = r;
  }

  pub soft_exactly : (told : Outcome SoftAnswer) → SoftOutcome h m ys told → (o : Outcome SoftAnswer) →
      (told ≡ o) ↔ SoftRow h m ys o
  soft_exactly told p =
      exactly (SoftRow h m ys) told (row_of_outcome (SoftRow h m ys) _ _ soft_rows told p)
      (λ o r. soft_outcome_unique h m ys o told (soft_of_row r) p)

module _ (h m : ℕ) (w : List ℕ) where
  hard_rows : RowsOf (HardRow h m w) (Near h m w) (hard_refusal h m w)
  unfolding hard_refusal
  hard_rows =
      let P = RowsOf (HardRow h m w) (Near h m w) in
      let long = eqb-true (length w) (carriers m) in
      refuse_cases P 1 (bad_shape h m) _ (λ s. hard_1 (not-true _ s)) (λ s.
      refuse_cases P 6 (octary h) _ (λ t. hard_6 (not-false _ s) (eqb-true h 3 t)) (λ t.
      refuse_cases P 2 (bad_length (length w) (carriers m)) _
      (λ l. hard_2 (not-false _ s) (eqb-false h 3 t) (eqb-false (length w) (carriers m) (not-true _ l))) (λ l.
      refuse_at_cases P 3 (bad_symbol h w) [] _
      (λ i e. hard_3 i (not-false _ s) (eqb-false h 3 t) (long (not-false _ l)) (first_too_great_of h w i e))
      (λ e a. hard_gives a (eqb-false h 3 t)
      (symbols_of_none h m w (not-false _ s) (long (not-false _ l)) (sym e))))))

  hard_of_row : {o : Outcome HardAnswer} → HardRow h m w o → HardOutcome h m w o
  unfolding hard_refusal
  hard_of_row (hard_1 s) = rw s
  hard_of_row (hard_6 s t) = rw (s, eq-eqb h 3 t)
  hard_of_row (hard_2 s t l) = rw (s, ne_eqb h 3 t, ne_eqb (length w) (carriers m) l)
  hard_of_row (hard_3 i s t l b) =
      rw (s, ne_eqb h 3 t, eq-eqb (length w) (carriers m) l, first_too_great_is h w i b)
  hard_of_row (hard_gives a t s r) = record {
    taken = hard_allowed h m w (record { few = few_phases h m s.shape t; symbols = s });
    right = r;
  }

  pub hard_exactly : (told : Outcome HardAnswer) → HardOutcome h m w told → (o : Outcome HardAnswer) →
      (told ≡ o) ↔ HardRow h m w o
  hard_exactly told p =
      exactly (HardRow h m w) told (row_of_outcome (HardRow h m w) _ _ hard_rows told p)
      (λ o r. hard_outcome_unique h m w o told (hard_of_row r) p)
