-- What the calls of a round trip promise together is what the round trip promises, by the theorems of the index; and
-- only one outcome keeps each of these promises. In order: the three trips; one outcome for each.
-- Assumes nothing.
use Prim.Native.Nat.{ℕ}
use mathlib.Core.Path.{◌≡◌, sym, ◌∙◌, ap₂, subst}
use mathlib.Core.List.{List}
use Rattle.rules.specs.Word.{word_of, partner_of}
use Rattle.rules.specs.Refusal.{pair_outcome, read_outcome}
use Rattle.encoder.specs.Sent.{Written}
use Rattle.encoder.specs.Sent.{Sent}
use Rattle.encoder.proofs.SentLaws.{sent_done, sent_word}
use Rattle.pair.specs.Paired.{Paired}
use Rattle.pair.specs.Paired.{paired_told}
use Rattle.pair.proofs.Unique.{paired_unique}
use Rattle.reader.specs.Reading.{Reading}
use Rattle.reader.specs.Reading.{reading_told}
use Rattle.reader.proofs.Unique.{reading_unique}
use Rattle.answers.specs.Decoded.{Matched}
use Rattle.answers.specs.Decoded.{Matches}
use Rattle.answers.proofs.Unique.{matches_unique}
use Rattle.theorems.proofs.Proved.{theorems}
use Rattle.trips.specs.Trips.{ReadBack, HardBack, CheckBack}

module _ {h m g : ℕ} {d w : List ℕ} {s : Written} (p : Sent h m g (word_of h m g) d s w) where
  pub read_trip : {r : Reading} → reading_told r ≡ read_outcome h m w → ReadBack h m g d r w
  read_trip {r} q = record {
    slice = p.slice;
    answer = q;
    back = λ e. theorems.further.read_back h m g d w r (sent_done h m g (word_of h m g) d w e (sent_word p e)) q;
  }

  pub hard_trip : {r : Matched} → Matches h m w r → HardBack h m g d r w
  hard_trip {r} q = record {
    slice = p.slice;
    answer = q;
    back = λ e two. theorems.further.hard_back h m g d w r two
        (sent_done h m g (word_of h m g) d w e (sent_word p e)) q;
  }

  pub check_trip : {b v : List ℕ} {t : Written} {r : Paired} → Sent h m g (partner_of h m g) b t v →
      paired_told r ≡ pair_outcome h m w v → CheckBack h m g d b r w v
  check_trip {b} {v} {t} {r} p' q = record {
    slice = p.slice;
    other = p'.slice;
    answer = q;
    back = λ e f. theorems.demand2.written_yes h m g d b w v r (sent_done h m g (word_of h m g) d w e (sent_word p e))
        (sent_done h m g (partner_of h m g) b v f (sent_word p' f)) q;
  }

-- only one outcome, answer and slices, keeps each promise
pub read_back_unique : {h m g : ℕ} {d : List ℕ} {r s : Reading} {a b : List ℕ} → ReadBack h m g d r a →
    ReadBack h m g d s b → (r ≡ s) × (a ≡ b)
read_back_unique {h} {m} {r = r} {s = s} {a = a} p q =
    let e = p.slice ∙ sym q.slice in
    (reading_unique h m a r s p.answer (subst (λ w. reading_told s ≡ read_outcome h m w) (sym e) q.answer), e)

pub hard_back_unique : {h m g : ℕ} {d : List ℕ} {r s : Matched} {a b : List ℕ} → HardBack h m g d r a →
    HardBack h m g d s b → (r ≡ s) × (a ≡ b)
hard_back_unique {h} {m} {r = r} {s = s} {a = a} p q =
    let e = p.slice ∙ sym q.slice in
    (matches_unique h m a r s p.answer (subst (λ w. Matches h m w s) (sym e) q.answer), e)

pub check_back_unique : {h m g : ℕ} {d b : List ℕ} {r s : Paired} {w v w' v' : List ℕ} → CheckBack h m g d b r w v →
    CheckBack h m g d b s w' v' → (r ≡ s) × (w ≡ w') × (v ≡ v')
check_back_unique {h} {m} {r = r} {s = s} {w = w} {v = v} p q =
    let e = p.slice ∙ sym q.slice in
    let f = p.other ∙ sym q.other in
    (paired_unique h m w v r s p.answer (q.answer ∙ sym (ap₂ (pair_outcome h m) e f)), e, f)
