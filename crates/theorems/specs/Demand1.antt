-- DEMAND 1 (docs/RULES.md, D1): anything may be handed in; refused by number exactly when the table says so; a refusal
-- writes nothing; every answer is pinned down.
-- That anything may be handed in is that no call has a requires; that every call ends is what the checker proves of
-- every function. A slice lent for reading stays what it is by its type alone (src/lib.rt), so the claims speak of the
-- slices that a call may write: those of encode and partner, and the areas of the transform and of its core, `run`.
-- A claim takes what a call ensures as its premise: encoder's `Sent`, answers' `Hears` and `Matches`, transform's
-- `Ran`, `Handed` and `AtLast` (what the areas hold at last, whole; `AtLastOf x y a b` says that they hold a and b),
-- and the equations of what is told. The rows: Rows.antt.
-- Defines:  Demand1    the claims
-- Proved in proofs/Proved.antt.  Assumes nothing: these are definitions.
use Rattle.std.specs.Prelude.{ℕ, ◌≡◌, Bool, Ok, List, [], ◌↔◌, ℤ, length}
use seplogic.Ra.Ura.{Ura}
use base.Logic.{ent}
use types.Logic.{Logic, sem}
use contract.Monad.{conj, fact}
use Rattle.std.specs.Borrow.{Bor, MutBor}
use Rattle.rules.specs.Word.{word_of, partner_of}
use Rattle.rules.specs.Outcome.{Outcome, refuses, allowed}
use Rattle.rules.specs.Refusal.{pair_outcome, read_outcome, soft_refusal, hard_refusal, transform_refusal}
use Rattle.rules.specs.Decoding.{SoftAnswer, HardAnswer}
use Rattle.encoder.specs.Sent.{Written}
use Rattle.encoder.specs.Sent.{written_told, Sent}
use Rattle.pair.specs.Paired.{Paired}
use Rattle.pair.specs.Paired.{paired_told}
use Rattle.reader.specs.Reading.{Reading}
use Rattle.reader.specs.Reading.{reading_told}
use Rattle.kinds.specs.Refusals.{Judged}
use Rattle.kinds.specs.Refusals.{judged_told}
use Rattle.transform.specs.Transformed.{Ran, Handed, AtLast, AtLastOf}
use Rattle.answers.specs.Decoded.{Loudest}
use Rattle.answers.specs.Decoded.{Closest}
use Rattle.answers.specs.Decoded.{Heard}
use Rattle.answers.specs.Decoded.{Matched}
use Rattle.answers.specs.Decoded.{heard_told, matched_told, Hears, Matches}
use Rattle.theorems.specs.Rows.{SendRow, PairRow, ReadRow, SoftRow, HardRow, TransformRow}

pub record Demand1 : Type 2 where
  -- REFUSED BY NUMBER, exactly when (D1.2). Each call tells o exactly where a row of its table says o.
  pub encode_tells : (h m g : ℕ) (d w : List ℕ) (r : Written) → Sent h m g (word_of h m g) d r w →
      (o : Outcome (Unit {0})) → (written_told r ≡ o) ↔ SendRow h m (length d) g o
  pub partner_tells : (h m g : ℕ) (d w : List ℕ) (r : Written) → Sent h m g (partner_of h m g) d r w →
      (o : Outcome (Unit {0})) → (written_told r ≡ o) ↔ SendRow h m (length d) g o
  pub check_tells : (h m : ℕ) (a b : List ℕ) (r : Paired) → paired_told r ≡ pair_outcome h m a b →
      (o : Outcome Bool) → (paired_told r ≡ o) ↔ PairRow h m a b o
  pub read_tells : (h m : ℕ) (w : List ℕ) (r : Reading) → reading_told r ≡ read_outcome h m w →
      (o : Outcome ℕ) → (reading_told r ≡ o) ↔ ReadRow h m w o
  pub soft_tells : (h m : ℕ) (ys : List ℤ) (r : Heard) → Hears h m ys r →
      (o : Outcome SoftAnswer) → (heard_told r ≡ o) ↔ SoftRow h m ys o
  pub hard_tells : (h m : ℕ) (w : List ℕ) (r : Matched) → Matches h m w r →
      (o : Outcome HardAnswer) → (matched_told r ≡ o) ↔ HardRow h m w o
  pub question_tells : (m : ℕ) (a b : List ℤ) (r : Judged) → judged_told r ≡ transform_refusal m a (length b) →
      (o : Outcome (Unit {0})) → (judged_told r ≡ o) ↔ TransformRow m a b o
  -- The transform has no Result to answer with: its part is empty exactly where the row of no refusal does not hold.
  pub transform_empty : (m : ℕ) (x y : MutBor (List ℤ)) (r : Bor (List ℤ)) → Handed m x y r →
      (r.now ≡ []) ↔ (TransformRow m x.now y.now allowed → ⊥)
  -- A decoder refuses nothing else: where no test of its table holds, a message is found.
  pub soft_answers : (h m : ℕ) (ys : List ℤ) (r : Heard) → soft_refusal h m ys ≡ allowed → Hears h m ys r →
      (a : Loudest) × (r ≡ Ok a)
  pub hard_answers : (h m : ℕ) (w : List ℕ) (r : Matched) → hard_refusal h m w ≡ allowed → Matches h m w r →
      (a : Closest) × (r ≡ Ok a)
  -- A REFUSAL WRITES NOTHING (D1.3). The slice that held d, and the areas that held a and b, hold them still.
  pub encode_keeps : (h m g : ℕ) (d w : List ℕ) (r : Written) → Sent h m g (word_of h m g) d r w →
      (k : ℕ) (v : List ℕ) → written_told r ≡ refuses k v → w ≡ d
  pub partner_keeps : (h m g : ℕ) (d w : List ℕ) (r : Written) → Sent h m g (partner_of h m g) d r w →
      (k : ℕ) (v : List ℕ) → written_told r ≡ refuses k v → w ≡ d
  pub run_keeps : (m : ℕ) (a b : List ℤ) (n : ℕ) (a' b' : List ℤ) → Ran m a b n a' b' →
      (k : ℕ) (v : List ℕ) → TransformRow m a b (refuses k v) → (n ≡ 0) × (a' ≡ a) × (b' ≡ b)
  -- A refused transform hands back the empty part at the front of the first area, and what it says of its areas is that
  -- they hold at last what they held.
  pub transform_keeps : (m : ℕ) (x y : MutBor (List ℤ)) (r : Bor (List ℤ)) → Handed m x y r →
      (k : ℕ) (v : List ℕ) → TransformRow m x.now y.now (refuses k v) →
      (r.now ≡ []) × (r.ref_ptr ≡ x.ref_ptr) × (AtLast m x y ≡ AtLastOf x y x.now y.now)
  -- EVERY ANSWER IS PINNED DOWN (D1.5). Two endings that both keep a call's promise are one: the answer, and every
  -- slice and area that the call may write, whole.
  pub encode_one : (h m g : ℕ) (d : List ℕ) (r s : Written) (w v : List ℕ) →
      Sent h m g (word_of h m g) d r w → Sent h m g (word_of h m g) d s v → (r ≡ s) × (w ≡ v)
  pub partner_one : (h m g : ℕ) (d : List ℕ) (r s : Written) (w v : List ℕ) →
      Sent h m g (partner_of h m g) d r w → Sent h m g (partner_of h m g) d s v → (r ≡ s) × (w ≡ v)
  pub check_one : (h m : ℕ) (a b : List ℕ) (r s : Paired) → paired_told r ≡ pair_outcome h m a b →
      paired_told s ≡ pair_outcome h m a b → r ≡ s
  pub read_one : (h m : ℕ) (w : List ℕ) (r s : Reading) → reading_told r ≡ read_outcome h m w →
      reading_told s ≡ read_outcome h m w → r ≡ s
  pub soft_one : (h m : ℕ) (ys : List ℤ) (r s : Heard) → Hears h m ys r → Hears h m ys s → r ≡ s
  pub hard_one : (h m : ℕ) (w : List ℕ) (r s : Matched) → Matches h m w r → Matches h m w s → r ≡ s
  pub question_one : (m : ℕ) (a b : List ℤ) (r s : Judged) → judged_told r ≡ transform_refusal m a (length b) →
      judged_told s ≡ transform_refusal m a (length b) → r ≡ s
  pub run_one : (m : ℕ) (a b : List ℤ) (n k : ℕ) (a' b' c' d' : List ℤ) → Ran m a b n a' b' → Ran m a b k c' d' →
      (n ≡ k) × (a' ≡ c') × (b' ≡ d')
  pub part_one : (m : ℕ) (x y : MutBor (List ℤ)) (r s : Bor (List ℤ)) → Handed m x y r → Handed m x y s →
      (r.now ≡ s.now) × (r.ref_ptr ≡ s.ref_ptr)
  -- What the two areas of a transform hold at last, in the terms of the logic: no two endings hold together.
  pub areas_one : {M : Type 1} {𝓤 : Ura M} (𝓛 : Logic 𝓤) → (x y : MutBor (List ℤ))
      (a b c d : List ℤ) →
      ent 𝓤 (conj 𝓤 (sem 𝓛 (AtLastOf x y a b)) (sem 𝓛 (AtLastOf x y c d))) (fact 𝓤 ((a ≡ c) × (b ≡ d)))
