-- What the pair check tells is exactly what the rows of its table say (specs/Rows.antt): a row holds of what the rules
-- say is told, and every row that holds says that. In order: the test of a pair is whether two words cancel; the row
-- that holds; what the rows say.
-- Not here: the other calls (Rows, DecodingRows, TransformRows).  Assumes nothing.
use Prim.Native.Nat.{ℕ}
use mathlib.Core.Path.{◌≡◌, refl, sym, ◌∙◌, ap}
use mathlib.Core.Bool.{Bool, true, false, ◌||◌, true≢false, false≢true}
use mathlib.Core.List.{List, [], ◌∷◌}
use mathlib.Core.Logic.{◌↔◌}
use lib.ListN.{length}
use borrow.Author.Tests.{eqb-true, eq-eqb, not-true, not-false}
use Rattle.range.proofs.Tests.{or_false, true_of_not_false}
use Rattle.rules.specs.Shape.{in_shape, carriers}
use Rattle.rules.specs.Word.{symbol_at}
use Rattle.rules.specs.Symbols.{Symbols}
use Rattle.rules.specs.Pair.{golay_pair}
use Rattle.rules.specs.Autocorrelation.{Cancel}
use Rattle.rules.specs.Outcome.{Outcome, gives, and_then}
use Rattle.rules.specs.Table.{bad_shape, bad_length, bad_symbol}
use Rattle.rules.specs.Refusal.{pair_refusal, pair_outcome}
use Rattle.rules.proofs.Range.{in_shape_range}
use Rattle.rules.proofs.OutcomeLaws.{refuse_cases, refuse_at_cases}
use Rattle.rules.proofs.SymbolLaws.{symbols_of_none, symbols_none}
use Rattle.golay.proofs.Autocorrelations.{golay_pair_iff_cancel}
use Rattle.pair.proofs.PairTest.{golay_pair_iff}
use Rattle.pair.proofs.Given.{pair_given}
use Rattle.theorems.specs.Rows.{PairRow, pair_1, pair_2, pair_3_first, pair_3_second, pair_yes, pair_no}
use Rattle.theorems.proofs.Rows.{first_too_great_of, first_too_great_is}

module _ (h m : ℕ) (a b : List ℕ) where
  -- the test of a pair is whether two words cancel
  pub tested_iff : in_shape h m ≡ true →
      (golay_pair h m (symbol_at a) (symbol_at b) ≡ true) ↔ Cancel h m (symbol_at a) (symbol_at b)
  tested_iff s =
      let same = golay_pair_iff_cancel h m (symbol_at a) (symbol_at b) (in_shape_range h m s).h_least in
      let test = golay_pair_iff h m (symbol_at a) (symbol_at b) in
      (λ e. same.0 (test.0 e), λ c. test.1 (same.1 c))

  pub tested_false : in_shape h m ≡ true →
      (golay_pair h m (symbol_at a) (symbol_at b) ≡ false) ↔ (Cancel h m (symbol_at a) (symbol_at b) → ⊥)
  tested_false s = (
    λ e c. true≢false (sym ((tested_iff s).1 c) ∙ e),
    λ n. at (golay_pair h m (symbol_at a) (symbol_at b)) refl n,
  )
    where
      at : (t : Bool) → golay_pair h m (symbol_at a) (symbol_at b) ≡ t → (Cancel h m (symbol_at a) (symbol_at b) → ⊥) →
          t ≡ false
      at true e n = absurd (n ((tested_iff s).0 e))
      at false e n = refl

  -- whether either word is of another length, as a test and as a claim
  abbrev short : Bool
  short = bad_length (length a) (carriers m) || bad_length (length b) (carriers m)

  both : short ≡ false → (length a ≡ carriers m) × (length b ≡ carriers m)
  both e =
      let l = or_false (bad_length (length a) (carriers m)) (bad_length (length b) (carriers m)) e in
      (eqb-true (length a) _ (not-false _ l.0), eqb-true (length b) _ (not-false _ l.1))

  not_both : short ≡ true → (length a ≡ carriers m) × (length b ≡ carriers m) → ⊥
  not_both e l = false≢true (rw (eq-eqb (length a) (carriers m) l.0, eq-eqb (length b) (carriers m) l.1) at e)

  short_of : ((length a ≡ carriers m) × (length b ≡ carriers m) → ⊥) → short ≡ true
  short_of n = true_of_not_false short (λ e. n (both e))

  abbrev Row : Outcome Bool → Type 0
  Row = PairRow h m a b

  -- two words in range
  counted : Symbols h m a → Symbols h m b → Row (gives (golay_pair h m (symbol_at a) (symbol_at b)))
  counted p q = at (golay_pair h m (symbol_at a) (symbol_at b)) refl
    where
      at : (t : Bool) → golay_pair h m (symbol_at a) (symbol_at b) ≡ t → Row (gives t)
      at true e = pair_yes p q ((tested_iff p.shape).0 e)
      at false e = pair_no p q ((tested_false p.shape).0 e)

  pub pair_row : Row (pair_outcome h m a b)
  unfolding pair_outcome pair_refusal
  pair_row =
      let P : Outcome (Unit {0}) → Type 0 =
      λ r. Row (and_then r (gives (golay_pair h m (symbol_at a) (symbol_at b)))) in
      refuse_cases P 1 (bad_shape h m) _ (λ s. pair_1 (not-true _ s)) (λ s.
      refuse_cases P 2 short _ (λ l. pair_2 (not-false _ s) (not_both l)) (λ l.
      let p = (both l).0 in
      let q = (both l).1 in
      refuse_at_cases P 3 (bad_symbol h a) (1 ∷ []) _
      (λ i e. pair_3_first i (not-false _ s) p q (first_too_great_of h a i e)) (λ e.
      let first = symbols_of_none h m a (not-false _ s) p (sym e) in
      refuse_at_cases P 3 (bad_symbol h b) (2 ∷ []) _ (λ i f. pair_3_second i first q (first_too_great_of h b i f))
      (λ f. counted first (symbols_of_none h m b (not-false _ s) q (sym f))))))

  pub pair_only : {o : Outcome Bool} → Row o → o ≡ pair_outcome h m a b
  unfolding pair_outcome pair_refusal
  pair_only (pair_1 s) = rw s
  pair_only (pair_2 s n) = rw (s, short_of n)
  pair_only (pair_3_first i s p q f) =
      rw (s, eq-eqb (length a) (carriers m) p, eq-eqb (length b) (carriers m) q, first_too_great_is h a i f)
  pair_only (pair_3_second i p q f) =
      rw (
        p.shape,
        eq-eqb (length a) (carriers m) p.long,
        eq-eqb (length b) (carriers m) q,
        sym (symbols_none h m a p),
        first_too_great_is h b i f,
      )
  pair_only (pair_yes p q c) = ap gives (sym ((tested_iff p.shape).1 c)) ∙ pair_given h m a b p q
  pair_only (pair_no p q c) = ap gives (sym ((tested_false p.shape).1 c)) ∙ pair_given h m a b p q
