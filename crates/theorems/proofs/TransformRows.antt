-- What the question about a transform tells is exactly what the rows of its table say (specs/Rows.antt): a row holds of
-- what the rules say is told, and every row that holds says that. In order: the first value out of range; the row that
-- holds; what the rows say.
-- Not here: what the transform then does (Transforming); other calls (Rows, PairRows, DecodingRows).  Assumes nothing.
use Prim.Native.Nat.{ℕ, ◌≤◌, ◌<◌}
use mathlib.Core.Path.{◌≡◌, sym, ap}
use mathlib.Core.Bool.{Bool, true, false, not, ◌||◌, false≢true}
use mathlib.Core.List.{List, []}
use mathlib.Core.Option.{none, some}
use lib.IntN.{ℤ}
use lib.ListN.{length}
use borrow.Author.Tests.{ltb-false, le-ltb, not-true, not-false}
use Rattle.range.specs.Signed.{entry}
use Rattle.range.proofs.Tests.{or_false, true_of_not_false, first_below_at, first_below_some, first_below_nowhere}
use Rattle.rules.specs.Shape.{carriers}
use Rattle.rules.specs.Spectrum.{accepted}
use Rattle.rules.specs.Outcome.{Outcome}
use Rattle.rules.specs.Table.{bad_m, short_area, bad_value}
use Rattle.rules.specs.Refusal.{transform_refusal}
use Rattle.rules.proofs.OutcomeLaws.{refuse_cases, refuse_at_cases}
use Rattle.rules.proofs.RefusalLaws.{transform_allowed}
use Rattle.theorems.specs.Rows.{FirstOutside, TransformRow, transform_1, transform_2, transform_7, transform_none}

module _ (m : ℕ) (a b : List ℤ) where
  abbrev told : Outcome (Unit {0})
  told = transform_refusal m a (length b)

  abbrev Row : Outcome (Unit {0}) → Type 0
  Row = TransformRow m a b

  outside_of : (i : ℕ) → bad_value m a ≡ some i → FirstOutside m a i
  unfolding bad_value
  outside_of i e =
      let found = first_below_at (carriers m) _ i e in
      record {
        inside = found.0;
        bad = not-true (accepted (entry a i)) found.1.0;
        before = λ j l. not-false (accepted (entry a j)) (found.1.1 j l);
      }

  outside_is : (i : ℕ) → FirstOutside m a i → bad_value m a ≡ some i
  unfolding bad_value
  outside_is i f =
      first_below_some (carriers m) _ i f.inside (ap not f.bad) (λ j l. ap not (f.before j l))

  inside_of : bad_value m a ≡ none → (i : ℕ) → i < carriers m → accepted (entry a i) ≡ true
  unfolding bad_value
  inside_of e i l = not-false (accepted (entry a i)) (first_below_nowhere (carriers m) _ e i l)

  -- whether either area is shorter than N, as a test and as a claim
  abbrev short : Bool
  short = short_area (length a) m || short_area (length b) m

  both : short ≡ false → (carriers m ≤ length a) × (carriers m ≤ length b)
  both e =
      let l = or_false (short_area (length a) m) (short_area (length b) m) e in
      (ltb-false (length a) (carriers m) l.0, ltb-false (length b) (carriers m) l.1)

  not_both : short ≡ true → (carriers m ≤ length a) × (carriers m ≤ length b) → ⊥
  not_both e l = false≢true (rw (le-ltb (length a) (carriers m) l.0, le-ltb (length b) (carriers m) l.1) at e)

  pub transform_row : Row told
  unfolding transform_refusal
  transform_row =
      refuse_cases Row 1 (bad_m m) _ (λ s. transform_1 (not-true _ s)) (λ s.
      refuse_cases Row 2 short _ (λ l. transform_2 (not-false _ s) (not_both l)) (λ l.
      let p = (both l).0 in
      let q = (both l).1 in
      refuse_at_cases Row 7 (bad_value m a) [] _ (λ i e. transform_7 i (not-false _ s) p q (outside_of i e))
      (λ e. transform_none (not-false _ s) p q (inside_of e))))

  pub transform_only : {o : Outcome (Unit {0})} → Row o → o ≡ told
  unfolding transform_refusal
  transform_only (transform_1 s) = rw s
  transform_only (transform_2 s n) = rw (s, true_of_not_false short (λ e. n (both e)))
  transform_only (transform_7 i s p q f) =
      rw (s, le-ltb (length a) (carriers m) p, le-ltb (length b) (carriers m) q, outside_is i f)
  transform_only (transform_none s p q all) =
      sym (transform_allowed m a b (record { range = s; first = p; second = q; values = all }))
