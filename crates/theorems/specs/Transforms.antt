-- THE TRANSFORM BY ITSELF (docs/RULES.md, Transform): what its part is, what its areas hold, and what the question
-- about it answers.
-- `TransformRow m a b allowed` says that nothing is refused. `Handed m x y r` is what the transform ensures of its part
-- r, and `AtLast m x y` of its areas, which `AtLastOf x y a b` says hold a and b at last; `Ran` is what its core,
-- `run`, does.
-- Which refusal is answered when, and that a refused transform changes nothing: Demand1.
-- Defines:  Transforms    the claims
-- Proved in proofs/Proved.antt.  Assumes nothing: these are definitions.
use Rattle.std.specs.Prelude.{ℕ, ◌-◌, ◌%◌, ◌<◌, ◌≡◌, List, ℤ, length, drop}
use Rattle.std.specs.Borrow.{Bor, MutBor}
use Rattle.range.specs.Below.{list_below, filled}
use Rattle.range.specs.Signed.{entry}
use Rattle.rules.specs.Shape.{carriers}
use Rattle.rules.specs.Spectrum.{spectrum_at, stages}
use Rattle.rules.specs.Outcome.{refuses, allowed}
use Rattle.rules.specs.Refusal.{transform_refusal}
use Rattle.kinds.specs.Refusals.{Judged}
use Rattle.kinds.specs.Refusals.{judged_told}
use Rattle.transform.specs.Transformed.{Ran, Handed, AtLast, AtLastOf}
use Rattle.theorems.specs.Rows.{TransformRow}

pub record Transforms : Type 1 where
  -- THE PART is the spectrum of the first N entries of the first area, and stands at the front of the first area for
  -- even m, of the second for odd m.
  pub part_spectrum : (m : ℕ) (x y : MutBor (List ℤ)) (r : Bor (List ℤ)) → Handed m x y r →
      TransformRow m x.now y.now allowed → r.now ≡ list_below (carriers m) (spectrum_at m (entry x.now))
  pub part_even : (m : ℕ) (x y : MutBor (List ℤ)) (r : Bor (List ℤ)) → Handed m x y r →
      TransformRow m x.now y.now allowed → m % 2 ≡ 0 → r.ref_ptr ≡ x.ref_ptr
  pub part_odd : (m : ℕ) (x y : MutBor (List ℤ)) (r : Bor (List ℤ)) → Handed m x y r →
      TransformRow m x.now y.now allowed → m % 2 ≡ 1 → r.ref_ptr ≡ y.ref_ptr
  -- After all m stages the spectrum stands.
  pub stages_spectrum : (m : ℕ) (y : ℕ → ℤ) (i : ℕ) → i < carriers m → stages m m y i ≡ spectrum_at m y i
  -- THE AREAS, from N on as they were: for even m the spectrum at the front of the first and what stood after stage
  -- m - 1 at the front of the second, for odd m the other way round.
  pub areas_even : (m : ℕ) (x y : MutBor (List ℤ)) → TransformRow m x.now y.now allowed → m % 2 ≡ 0 →
      AtLast m x y ≡ AtLastOf x y (filled (carriers m) (spectrum_at m (entry x.now)) x.now)
      (filled (carriers m) (stages m (m - 1) (entry x.now)) y.now)
  pub areas_odd : (m : ℕ) (x y : MutBor (List ℤ)) → TransformRow m x.now y.now allowed → m % 2 ≡ 1 →
      AtLast m x y ≡ AtLastOf x y (filled (carriers m) (stages m (m - 1) (entry x.now)) x.now)
      (filled (carriers m) (spectrum_at m (entry x.now)) y.now)
  -- `run` answers N, and leaves the same.
  pub run_even : (m : ℕ) (a b : List ℤ) (n : ℕ) (a' b' : List ℤ) → Ran m a b n a' b' → TransformRow m a b allowed →
      m % 2 ≡ 0 → (n ≡ carriers m) × (a' ≡ filled (carriers m) (spectrum_at m (entry a)) a)
      × (b' ≡ filled (carriers m) (stages m (m - 1) (entry a)) b)
  pub run_odd : (m : ℕ) (a b : List ℤ) (n : ℕ) (a' b' : List ℤ) → Ran m a b n a' b' → TransformRow m a b allowed →
      m % 2 ≡ 1 → (n ≡ carriers m) × (a' ≡ filled (carriers m) (stages m (m - 1) (entry a)) a)
      × (b' ≡ filled (carriers m) (spectrum_at m (entry a)) b)
  -- So entries from N on stay, refused or not.
  pub tails_stay : (m : ℕ) (a b : List ℤ) (n : ℕ) (a' b' : List ℤ) → Ran m a b n a' b' →
      (drop (carriers m) a' ≡ drop (carriers m) a) × (drop (carriers m) b' ≡ drop (carriers m) b)
  -- THE QUESTION, asked after a refusal, answers it again.
  pub question_again : (m : ℕ) (a b : List ℤ) (n : ℕ) (a' b' : List ℤ) (r : Judged) (k : ℕ) (v : List ℕ) →
      Ran m a b n a' b' → TransformRow m a b (refuses k v) → judged_told r ≡ transform_refusal m a' (length b') →
      judged_told r ≡ refuses k v
