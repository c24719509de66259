-- What the transform and its core do where a row of the table refuses, and where none does (specs/Transforms.antt,
-- Demand1). In order: what the areas hold where nothing is refused, and where something is; the core, `run`; what the
-- transform says of its areas; its part, refused or not, which is empty exactly where it is refused.
-- Not here: which row holds (TransformRows).  Assumes nothing.
use Prim.Native.Nat.{ℕ, ◌-◌, ◌%◌}
use native.Mathlib.Omega.{arith}
use mathlib.Core.Path.{◌≡◌, refl, sym, ◌∙◌, ap}
use mathlib.Core.Bool.{Bool, true, false, cond}
use mathlib.Core.List.{List, []}
use mathlib.Core.Logic.{◌↔◌}
use lib.IntN.{ℤ}
use lib.ListN.{length, drop}
use lib.Pow.{pow_pos}
use borrow.Author.Tests.{eq-eqb, ne_eqb}
use denote.Ref.{Bor, MutBor}
use Rattle.range.specs.Below.{list_below, filled}
use Rattle.range.specs.Signed.{entry}
use Rattle.range.proofs.Lists.{length_list_below}
use Rattle.range.proofs.Filled.{drop_filled}
use Rattle.rules.specs.Shape.{carriers}
use Rattle.rules.specs.Spectrum.{spectrum_at, stages}
use Rattle.rules.specs.Outcome.{Outcome, gives, refuses, allowed}
use Rattle.rules.specs.Refusal.{transform_refusal}
use Rattle.rules.specs.Areas.{in_first, first_after, second_after, part_of, part_length, part_in_first}
use Rattle.kinds.specs.Refusals.{Judged}
use Rattle.kinds.specs.Refusals.{judged_told}
use Rattle.transform.specs.Transformed.{Ran, Handed, AtLast, AtLastOf}
use Rattle.theorems.specs.Rows.{TransformRow}
use Rattle.theorems.proofs.TransformRows.{transform_row, transform_only}

module _ (m : ℕ) (a b : List ℤ) where
  abbrev told : Outcome (Unit {0})
  told = transform_refusal m a (length b)

  abbrev Row : Outcome (Unit {0}) → Type 0
  Row = TransformRow m a b

  -- nothing is refused
  module _ (free : Row allowed) where
    is_free : told ≡ allowed
    is_free = sym (transform_only m a b free)

    -- both areas, by whether the last stage writes the first
    areas_by : (t : Bool) → in_first m ≡ t →
        (first_after m a b ≡ filled (carriers m) (cond t (spectrum_at m (entry a)) (stages m (m - 1) (entry a))) a)
        × (second_after m a b ≡ filled (carriers m) (cond t (stages m (m - 1) (entry a)) (spectrum_at m (entry a))) b)
    unfolding first_after second_after
    areas_by t e = (rw (is_free, e), rw (is_free, e))

    after_even : m % 2 ≡ 0 → (first_after m a b ≡ filled (carriers m) (spectrum_at m (entry a)) a)
        × (second_after m a b ≡ filled (carriers m) (stages m (m - 1) (entry a)) b)
    after_even e = areas_by true (eq-eqb (m % 2) 0 e)

    after_odd : m % 2 ≡ 1 → (first_after m a b ≡ filled (carriers m) (stages m (m - 1) (entry a)) a)
        × (second_after m a b ≡ filled (carriers m) (spectrum_at m (entry a)) b)
    after_odd e = areas_by false (ne_eqb (m % 2) 0 (λ z. omega (arith, e, z)))

    after_tails : (drop (carriers m) (first_after m a b) ≡ drop (carriers m) a)
        × (drop (carriers m) (second_after m a b) ≡ drop (carriers m) b)
    after_tails = let e = areas_by (in_first m) refl in (
      ap (drop (carriers m)) e.0 ∙ drop_filled (carriers m) _ a,
      ap (drop (carriers m)) e.1 ∙ drop_filled (carriers m) _ b,
    )

    counts : part_length m a b ≡ carriers m
    unfolding part_length
    counts = rw is_free refl

  -- something is refused
  module _ (k : ℕ) (v : List ℕ) (refused : Row (refuses k v)) where
    is_refused : told ≡ refuses k v
    is_refused = sym (transform_only m a b refused)

    kept : (first_after m a b ≡ a) × (second_after m a b ≡ b)
    unfolding first_after second_after
    kept = (rw is_refused refl, rw is_refused refl)

    counts_none : part_length m a b ≡ 0
    unfolding part_length
    counts_none = rw is_refused refl

  -- the core
  module _ (n : ℕ) (a' b' : List ℤ) (ran : Ran m a b n a' b') where
    pub run_even : Row allowed → m % 2 ≡ 0 → (n ≡ carriers m) × (a' ≡ filled (carriers m) (spectrum_at m (entry a)) a)
        × (b' ≡ filled (carriers m) (stages m (m - 1) (entry a)) b)
    run_even free e =
        let after = after_even free e in
        (ran.count ∙ counts free, ran.first ∙ after.0, ran.second ∙ after.1)

    pub run_odd : Row allowed → m % 2 ≡ 1 →
        (n ≡ carriers m) × (a' ≡ filled (carriers m) (stages m (m - 1) (entry a)) a)
        × (b' ≡ filled (carriers m) (spectrum_at m (entry a)) b)
    run_odd free e =
        let after = after_odd free e in
        (ran.count ∙ counts free, ran.first ∙ after.0, ran.second ∙ after.1)

    pub run_keeps : (k : ℕ) (v : List ℕ) → Row (refuses k v) → (n ≡ 0) × (a' ≡ a) × (b' ≡ b)
    run_keeps k v refused =
        let same = kept k v refused in
        (ran.count ∙ counts_none k v refused, ran.first ∙ same.0, ran.second ∙ same.1)

    pub tails_stay : (drop (carriers m) a' ≡ drop (carriers m) a) × (drop (carriers m) b' ≡ drop (carriers m) b)
    tails_stay = at told (transform_row m a b)
      where
        at : (o : Outcome (Unit {0})) → Row o →
            (drop (carriers m) a' ≡ drop (carriers m) a) × (drop (carriers m) b' ≡ drop (carriers m) b)
        at (gives tt) free =
            let after = after_tails free in
            (ap (drop (carriers m)) ran.first ∙ after.0, ap (drop (carriers m)) ran.second ∙ after.1)
        at (refuses k v) refused =
            let same = run_keeps k v refused in
            (ap (drop (carriers m)) same.1, ap (drop (carriers m)) same.2)

    pub question_again : (r : Judged) (k : ℕ) (v : List ℕ) → Row (refuses k v) →
        judged_told r ≡ transform_refusal m a' (length b') → judged_told r ≡ refuses k v
    question_again r k v refused e =
        let same = run_keeps k v refused in
        e ∙ rw (same.1, same.2) (is_refused k v refused)

-- what the transform says of its areas
module _ (m : ℕ) (x y : MutBor (List ℤ)) where
  at_last : {a b : List ℤ} → first_after m x.now y.now ≡ a → second_after m x.now y.now ≡ b →
      AtLast m x y ≡ AtLastOf x y a b
  at_last p q = rw (p, q) refl

  pub areas_even : TransformRow m x.now y.now allowed → m % 2 ≡ 0 →
      AtLast m x y ≡ AtLastOf x y (filled (carriers m) (spectrum_at m (entry x.now)) x.now)
      (filled (carriers m) (stages m (m - 1) (entry x.now)) y.now)
  areas_even free e =
      let after = after_even m x.now y.now free e in
      at_last after.0 after.1

  pub areas_odd : TransformRow m x.now y.now allowed → m % 2 ≡ 1 →
      AtLast m x y ≡ AtLastOf x y (filled (carriers m) (stages m (m - 1) (entry x.now)) x.now)
      (filled (carriers m) (spectrum_at m (entry x.now)) y.now)
  areas_odd free e =
      let after = after_odd m x.now y.now free e in
      at_last after.0 after.1

module _ (m : ℕ) (x y : MutBor (List ℤ)) (r : Bor (List ℤ)) (h : Handed m x y r) where
  pub part_spectrum : TransformRow m x.now y.now allowed →
      r.now ≡ list_below (carriers m) (spectrum_at m (entry x.now))
  unfolding part_of
  part_spectrum free = h.contents ∙ rw (is_free m x.now y.now free) refl

  part_place : TransformRow m x.now y.now allowed → r.ref_ptr ≡ cond (in_first m) x.ref_ptr y.ref_ptr
  unfolding part_in_first
  part_place free = h.place ∙ rw (is_free m x.now y.now free) refl

  pub part_even : TransformRow m x.now y.now allowed → m % 2 ≡ 0 → r.ref_ptr ≡ x.ref_ptr
  part_even free e = part_place free ∙ rw (eq-eqb (m % 2) 0 e) refl

  pub part_odd : TransformRow m x.now y.now allowed → m % 2 ≡ 1 → r.ref_ptr ≡ y.ref_ptr
  part_odd free e = part_place free ∙ rw (ne_eqb (m % 2) 0 (λ z. omega (arith, e, z))) refl

  pub transform_keeps : (k : ℕ) (v : List ℕ) → TransformRow m x.now y.now (refuses k v) →
      (r.now ≡ []) × (r.ref_ptr ≡ x.ref_ptr) × (AtLast m x y ≡ AtLastOf x y x.now y.now)
  unfolding part_of part_in_first
  transform_keeps k v refused =
      let e = is_refused m x.now y.now k v refused in
      let same = kept m x.now y.now k v refused in
      (h.contents ∙ rw e refl, h.place ∙ rw e refl, at_last m x y same.0 same.1)

  pub transform_empty : (r.now ≡ []) ↔ (TransformRow m x.now y.now allowed → ⊥)
  transform_empty = (λ e free. full e free, λ n. at (told m x.now y.now) (transform_row m x.now y.now) n)
    where
      full : r.now ≡ [] → TransformRow m x.now y.now allowed → ⊥
      full e free =
          let n : carriers m ≡ 0 = sym (length_list_below (carriers m) (spectrum_at m (entry x.now)))
          ∙ ap length (sym (part_spectrum free) ∙ e) in
          omega (arith, n, pow_pos m)

      at : (o : Outcome (Unit {0})) → TransformRow m x.now y.now o → (TransformRow m x.now y.now allowed → ⊥) →
          r.now ≡ []
      at (gives tt) row n = absurd (n row)
      at (refuses k v) row n = (transform_keeps k v row).0
