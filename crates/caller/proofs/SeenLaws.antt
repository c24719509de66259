-- What `look` sees. In order: only one outcome is promised; where nothing is refused, the two numbers in the rules' own
-- words, entry 0 of the spectrum and entry 0 of what stood after stage m - 1; of a refused transform the total is 0 and
-- the other number is read of its area as it was; both areas stay.
-- Assumes nothing.
use Prim.Native.Nat.{ℕ, ◌-◌}
use mathlib.Core.Path.{◌≡◌, refl, sym, ◌∙◌}
use mathlib.Core.Bool.{Bool, true, false, cond}
use mathlib.Core.List.{List}
use lib.IntN.{ℤ, pos}
use lib.ListN.{length}
use lib.Pow.{pow_pos}
use Rattle.range.specs.Signed.{entry}
use Rattle.range.proofs.Lists.{list_below_at}
use Rattle.range.proofs.Filled.{filled_at}
use Rattle.rules.specs.Shape.{carriers}
use Rattle.rules.specs.Spectrum.{spectrum_at, stages}
use Rattle.rules.specs.Outcome.{refuses, allowed}
use Rattle.rules.specs.Refusal.{transform_refusal}
use Rattle.rules.specs.Areas.{in_first, first_after, second_after, part_of}
use Rattle.transform.specs.Transformed.{Ran}
use Rattle.transform.proofs.AreasAfter.{ran_refused}
use Rattle.caller.specs.declared.Ends.{Ends}
use Rattle.caller.specs.Seen.{Seen}

ends_equal : {r s : Ends} → r.total ≡ s.total → r.kept ≡ s.kept → r ≡ s
ends_equal p q i = record { total = p i; kept = q i }

module _ {m : ℕ} {a b : List ℤ} where
  pub seen_unique : {r s : Ends} {a' b' c' d' : List ℤ} → Seen m a b r a' b' → Seen m a b s c' d' →
      (r ≡ s) × (a' ≡ c') × (b' ≡ d')
  seen_unique p q = (
    ends_equal (p.total ∙ sym q.total) (p.kept ∙ sym q.kept),
    p.first ∙ sym q.first,
    p.second ∙ sym q.second,
  )

module _ (m : ℕ) (a b a' b' : List ℤ) (r : Ends) (s : Seen m a b r a' b') where
  -- where nothing is refused, the two numbers in the rules' own words
  module _ (q : transform_refusal m a (length b) ≡ allowed) where
    pub seen_total : r.total ≡ spectrum_at m (entry a) 0
    unfolding part_of
    seen_total = s.total ∙ rw q (list_below_at (carriers m) (spectrum_at m (entry a)) 0 (pos 0) (pow_pos m))

    kept_of : (t : Bool) → in_first m ≡ t →
        cond t (entry (second_after m a b) 0) (entry (first_after m a b) 0) ≡ stages m (m - 1) (entry a) 0
    unfolding first_after second_after
    kept_of true e = rw (q, e) (filled_at (carriers m) (stages m (m - 1) (entry a)) b 0 (pos 0) (pow_pos m))
    kept_of false e = rw (q, e) (filled_at (carriers m) (stages m (m - 1) (entry a)) a 0 (pos 0) (pow_pos m))

    pub seen_kept : r.kept ≡ stages m (m - 1) (entry a) 0
    seen_kept = s.kept ∙ kept_of (in_first m) refl

  module _ (k : ℕ) (v : List ℕ) (e : transform_refusal m a (length b) ≡ refuses k v) where
    pub seen_refused : (r.total ≡ pos 0) × (r.kept ≡ cond (in_first m) (entry b 0) (entry a 0))
    unfolding part_of first_after second_after
    seen_refused = (s.total ∙ rw e, s.kept ∙ rw e)

    pub seen_stays : (a' ≡ a) × (b' ≡ b)
    seen_stays =
        let ran : Ran m a b 0 a b = ran_refused m a b k v e in
        (s.first ∙ sym ran.first, s.second ∙ sym ran.second)
