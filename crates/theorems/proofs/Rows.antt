-- What a call tells is exactly what the rows of its table say (specs/Rows.antt). For each call in turn: a row holds of
-- what the rules say is told, and every row that holds says that. In order: the step from these two to "exactly"; the
-- first bad symbol; encode and partner; word reading.
-- Not here: the pair check (PairRows), the decoders (DecodingRows), the transform (TransformRows).  Assumes nothing.
use Prim.Native.Nat.{ℕ, ◌<◌}
use mathlib.Core.Path.{◌≡◌, refl, sym, ◌∙◌, ap, subst}
use mathlib.Core.Bool.{true}
use mathlib.Core.List.{List, []}
use mathlib.Core.Option.{Option, none, some}
use mathlib.Core.Logic.{◌≢◌, ◌↔◌}
use lib.Dec.{leb}
use lib.ListN.{length}
use borrow.Author.Tests.{leb-true, leb-false, le-leb, lt-leb, eqb-true, eqb-false, eq-eqb, ne_eqb, not-true, not-false}
use Rattle.range.proofs.Tests.{first_below_at, first_below_some}
use Rattle.rules.specs.Shape.{in_shape, phases, carriers, messages}
use Rattle.rules.specs.Word.{word_of, symbol_at}
use Rattle.rules.specs.Symbols.{Symbols}
use Rattle.rules.specs.Outcome.{Outcome, gives, refuses, and_then}
use Rattle.rules.specs.Table.{bad_shape, bad_length, bad_symbol, bad_message, message_with}
use Rattle.rules.specs.Refusal.{send_refusal, word_refusal, read_outcome, or_no_word}
use Rattle.rules.proofs.OutcomeLaws.{refuse_cases, refuse_at_cases}
use Rattle.rules.proofs.RefusalLaws.{send_allowed, word_allowed}
use Rattle.rules.proofs.SymbolLaws.{symbols_of_none}
use Rattle.reader.proofs.ShownLaws.{message_with_some, message_with_iff, message_with_none_iff}
use Rattle.theorems.specs.Rows.{FirstTooGreat, SendRow, send_1, send_2, send_4, send_none}
use Rattle.theorems.specs.Rows.{ReadRow, read_1, read_2, read_3, read_5, read_gives}
use Rattle.theorems.proofs.Slices.{word_of_symbols}

-- where a row holds of what is told, and every row that holds says it
pub exactly : {A : Type 0} (Row : Outcome A → Type 0) (told : Outcome A) → Row told →
    ((o : Outcome A) → Row o → o ≡ told) → (o : Outcome A) → (told ≡ o) ↔ Row o
exactly Row told has only o = (λ e. subst Row e has, λ r. sym (only o r))

module _ (h : ℕ) (w : List ℕ) (i : ℕ) where
  pub first_too_great_of : bad_symbol h w ≡ some i → FirstTooGreat h w i
  unfolding bad_symbol
  first_too_great_of e =
      let f = first_below_at (length w) (λ k. leb (phases h) (symbol_at w k)) i e in
      record { inside = f.0; bad = leb-true _ _ f.1.0; before = λ j l. leb-false _ _ (f.1.1 j l) }

  pub first_too_great_is : FirstTooGreat h w i → bad_symbol h w ≡ some i
  unfolding bad_symbol
  first_too_great_is f =
      first_below_some (length w) (λ k. leb (phases h) (symbol_at w k)) i f.inside (le-leb _ _ f.bad)
      (λ j l. lt-leb _ _ (f.before j l))

module _ (h m n g : ℕ) where
  pub send_row : SendRow h m n g (send_refusal h m n g)
  unfolding send_refusal
  send_row =
      let Row = SendRow h m n g in
      refuse_cases Row 1 (bad_shape h m) _ (λ s. send_1 (not-true _ s)) (λ s.
      refuse_cases Row 2 (bad_length n (carriers m)) _ (λ l. send_2 (not-false _ s) (eqb-false n _ (not-true _ l)))
      (λ l.
      refuse_cases Row 4 (bad_message h m g) _
      (λ b. send_4 (not-false _ s) (eqb-true n _ (not-false _ l)) (leb-true _ g b))
      (λ b. send_none (not-false _ s) (eqb-true n _ (not-false _ l)) (leb-false _ g b))))

  pub send_only : {o : Outcome (Unit {0})} → SendRow h m n g o → o ≡ send_refusal h m n g
  unfolding send_refusal
  send_only (send_1 s) = rw s
  send_only (send_2 s l) = rw (s, ne_eqb n (carriers m) l)
  send_only (send_4 s l b) = rw (s, eq-eqb n (carriers m) l, le-leb (messages h m) g b)
  send_only (send_none s l b) = sym (send_allowed h m n g (record { shape = s; long = l; message = b }))

module _ (h m : ℕ) (w : List ℕ) where
  -- past the tests of the table, the search for a message tells
  searched : Symbols h m w → or_no_word (message_with h m w) ≡ read_outcome h m w
  unfolding read_outcome
  searched s = rw (word_allowed h m w s)

  pub read_row : ReadRow h m w (read_outcome h m w)
  unfolding read_outcome word_refusal
  read_row =
      let P : Outcome (Unit {0}) → Type 0 = λ r. ReadRow h m w (and_then r (or_no_word (message_with h m w))) in
      let long = eqb-true (length w) (carriers m) in
      refuse_cases P 1 (bad_shape h m) _ (λ s. read_1 (not-true _ s)) (λ s.
      refuse_cases P 2 (bad_length (length w) (carriers m)) _
      (λ l. read_2 (not-false _ s) (eqb-false (length w) (carriers m) (not-true _ l))) (λ l.
      refuse_at_cases P 3 (bad_symbol h w) [] _
      (λ i e. read_3 i (not-false _ s) (long (not-false _ l)) (first_too_great_of h w i e))
      (λ e.
      found (symbols_of_none h m w (not-false _ s) (long (not-false _ l)) (sym e)) (message_with h m w) refl)))
    where
      found : (s : Symbols h m w) (f : Option ℕ) → message_with h m w ≡ f → ReadRow h m w (or_no_word f)
      found s none e = read_5 s ((message_with_none_iff h m w s).0 e)
      found s (some g) e =
          let has = (message_with_iff h m w s g).0 e in
          read_gives g s.shape has.0 has.1

  pub read_only : {o : Outcome ℕ} → ReadRow h m w o → o ≡ read_outcome h m w
  unfolding read_outcome word_refusal
  read_only (read_1 s) = rw s
  read_only (read_2 s l) = rw (s, ne_eqb (length w) (carriers m) l)
  read_only (read_3 i s l b) = rw (s, eq-eqb (length w) (carriers m) l, first_too_great_is h w i b)
  read_only (read_5 s n) = ap or_no_word (sym ((message_with_none_iff h m w s).1 n)) ∙ searched s
  read_only (read_gives g s b e) =
      let is : Symbols h m w = subst (Symbols h m) e (word_of_symbols h m g s) in
      ap or_no_word (sym (message_with_some h m w is g b e)) ∙ searched is

  -- what the rows of a message and of none hold
  pub row_found : {g : ℕ} → ReadRow h m w (gives g) → (in_shape h m ≡ true) × (g < messages h m) × (word_of h m g ≡ w)
  row_found (read_gives g s b e) = (s, b, e)

  pub row_none : ReadRow h m w (refuses 5 []) → Symbols h m w × ((g : ℕ) → g < messages h m → word_of h m g ≢ w)
  row_none (read_5 s n) = (s, n)
