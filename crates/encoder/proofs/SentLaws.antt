-- Laws of the promise of encode and partner.
-- In order: the promise of a refusal and of a word written; a word said in another way; the slice where nothing is
-- refused, and where something is.
-- Not here: that only one outcome satisfies it (Unique).  Assumes nothing.
use Prim.Native.Nat.{ℕ}
use mathlib.Core.Path.{◌≡◌, sym, ◌∙◌, ap, subst}
use mathlib.Core.List.{List}
use lib.ListN.{length}
use Rattle.std.specs.Prelude.{Ok, Err, IsOk}
use Rattle.rules.specs.Outcome.{Outcome, refuses, allowed, leaves}
use Rattle.rules.specs.Refusal.{send_refusal}
use Rattle.kinds.specs.declared.Refusal.{Refusal}
use Rattle.kinds.specs.Refusals.{refusal_told}
use Rattle.kinds.proofs.RefusalLaws.{given_ok}
use Rattle.encoder.specs.Sent.{Written, Sent}

module _ (h m g : ℕ) (word before : List ℕ) where
  pub sent_refused : (why : Refusal) → refusal_told why ≡ send_refusal h m (length before) g →
      Sent h m g word before (Err why) before
  sent_refused why e = record { told = e; slice = ap (λ (o : Outcome (Unit {0})). leaves o before word) e }

  pub sent_done : (after : List ℕ) → send_refusal h m (length before) g ≡ allowed → after ≡ word →
      Sent h m g word before (Ok tt) after
  sent_done after e q = record {
    told = sym e;
    slice = q ∙ ap (λ (o : Outcome (Unit {0})). leaves o before word) (sym e);
  }

-- the word may be said in another way
pub sent_cong : {h m g : ℕ} {word word' before : List ℕ} {r : Written} {after : List ℕ} → word ≡ word' →
    Sent h m g word before r after → Sent h m g word' before r after
sent_cong {h} {m} {g} {before = before} {r = r} {after = after} e s =
    subst (λ (w : List ℕ). Sent h m g w before r after) e s

-- where nothing is refused the slice holds the word
pub sent_word : {h m g : ℕ} {word before : List ℕ} {r : Written} {after : List ℕ} → Sent h m g word before r after →
    send_refusal h m (length before) g ≡ allowed → after ≡ word
sent_word {word = word} {before = before} s e = s.slice ∙ ap (λ (o : Outcome (Unit {0})). leaves o before word) e

-- and the answer is that it is written
pub sent_ok : {h m g : ℕ} {word before : List ℕ} {r : Written} {after : List ℕ} → Sent h m g word before r after →
    send_refusal h m (length before) g ≡ allowed → IsOk r
sent_ok {r = r} s e = given_ok (λ u. u) r (s.told ∙ e)

-- and where something is, whatever it held
pub sent_kept : {h m g : ℕ} {word before : List ℕ} {r : Written} {after : List ℕ} (k : ℕ) (v : List ℕ) →
    Sent h m g word before r after → send_refusal h m (length before) g ≡ refuses k v → after ≡ before
sent_kept {word = word} {before = before} k v s e =
    s.slice ∙ ap (λ (o : Outcome (Unit {0})). leaves o before word) e
