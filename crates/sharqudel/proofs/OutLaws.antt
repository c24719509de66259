-- Each call keeps its promise: this crate's Out. For each call, what it leaves where the crate below gives an answer,
-- and what it leaves where that refuses, from what `tell`, `name`, `number` and `written` ensure.
-- In order: encode and partner; the pair check; word reading; soft decoding; hard decoding; the question about the
-- transform; the transform.
-- Not here: that only one ending keeps a promise (Unique).  Assumes nothing.
use Prim.Native.Nat.{ℕ, ◌+◌, ◌%◌}
use mathlib.Core.Path.{◌≡◌, refl, sym, ◌∙◌, ap, subst}
use mathlib.Core.Bool.{Bool}
use mathlib.Core.List.{List}
use lib.IntN.{ℤ}
use lib.ListN.{length, get_or}
use Rattle.rules.specs.Outcome.{Outcome, gives, allowed, leaves}
use Rattle.rules.specs.Refusal.{soft_refusal, hard_refusal, transform_refusal}
use Rattle.rules.specs.Decoding.{SoftAnswer, HardAnswer, SoftOutcome, HardOutcome}
use Rattle.kinds.specs.declared.Refusal.{Refusal}
use Rattle.kinds.specs.Refusals.{refusal_number, refusal_carries, refusal_told}
use Rattle.encoder.specs.Sent.{Written}
use Rattle.encoder.specs.Sent.{written_told, Sent}
use Rattle.transform.specs.Transformed.{Ran}
use Rattle.transform.proofs.AreasAfter.{ran_refused}
use Rattle.sharqudel.specs.Crossing.{kind_of, Tells, area_of}
use Rattle.sharqudel.specs.Out.{SentOut, CheckedOut, ReadOut, SoftOut, HardOut, JudgedOut, TransformedOut}
use Rattle.sharqudel.proofs.CrossingLaws.{kind_of_cong, area_of_is}

pub sent_out_of_sent : {h m g : ℕ} {word d d' : List ℕ} {r : ℕ} (w : Written) → Sent h m g word d w d' →
    r ≡ kind_of (written_told w) → SentOut h m g word d r d'
sent_out_of_sent w s e = record { number = e ∙ kind_of_cong s.told; slice = s.slice }

module _ {o : Outcome Bool} {b₀ : Bool} {p₀ w₀ : ℕ} where
  pub checked_out_given : {b : Bool} → gives b ≡ o → CheckedOut o 0 b₀ b p₀ p₀ w₀ w₀
  checked_out_given {b} e =
      subst (λ (x : Outcome Bool). CheckedOut x 0 b₀ b p₀ p₀ w₀ w₀) e
      (record { number = refl; pair = refl; place = refl; which = refl })

  pub checked_out_refused : {r p w : ℕ} (why : Refusal) → refusal_told why ≡ o → Tells why r p₀ p →
      w ≡ get_or (refusal_carries why) 1 w₀ → CheckedOut o r b₀ b₀ p₀ p w₀ w
  checked_out_refused {r} {p} {w} why e t n =
      subst (λ (x : Outcome Bool). CheckedOut x r b₀ b₀ p₀ p w₀ w) e
      (record { number = t.number; pair = refl; place = t.place; which = n })

module _ {o : Outcome ℕ} {g₀ p₀ : ℕ} where
  pub read_out_given : {g : ℕ} → gives g ≡ o → ReadOut o 0 g₀ g p₀ p₀
  read_out_given {g} e =
      subst (λ (x : Outcome ℕ). ReadOut x 0 g₀ g p₀ p₀) e (record { number = refl; message = refl; place = refl })

  pub read_out_refused : {r p : ℕ} (why : Refusal) → refusal_told why ≡ o → Tells why r p₀ p → ReadOut o r g₀ g₀ p₀ p
  read_out_refused {r} {p} why e t =
      subst (λ (x : Outcome ℕ). ReadOut x r g₀ g₀ p₀ p) e
      (record { number = t.number; message = refl; place = t.place })

module _ {h m : ℕ} {ys : List ℤ} {g₀ : ℕ} {v₀ : ℤ} {t₀ : Bool} where
  pub soft_out_given : {a : SoftAnswer} → SoftOutcome h m ys (gives a) →
      SoftOut h m ys 0 g₀ a.message v₀ a.value t₀ a.tied
  soft_out_given {a} p = record {
    outcome = gives a;
    heard = p;
    number = refl;
    message = refl;
    correlation = refl;
    tied = refl;
  }

  pub soft_out_refused : {r : ℕ} (why : Refusal) → soft_refusal h m ys ≡ refusal_told why → r ≡ refusal_number why →
      SoftOut h m ys r g₀ g₀ v₀ v₀ t₀ t₀
  soft_out_refused why e n = record {
    outcome = refusal_told why;
    heard = e;
    number = n;
    message = refl;
    correlation = refl;
    tied = refl;
  }

module _ {h m : ℕ} {w : List ℕ} {g₀ d₀ : ℕ} {t₀ : Bool} {p₀ : ℕ} where
  pub hard_out_given : {a : HardAnswer} → HardOutcome h m w (gives a) →
      HardOut h m w 0 g₀ a.message d₀ a.value t₀ a.tied p₀ p₀
  hard_out_given {a} p = record {
    outcome = gives a;
    matched = p;
    number = refl;
    message = refl;
    distance = refl;
    tied = refl;
    place = refl;
  }

  pub hard_out_refused : {r p : ℕ} (why : Refusal) → hard_refusal h m w ≡ refusal_told why → Tells why r p₀ p →
      HardOut h m w r g₀ g₀ d₀ d₀ t₀ t₀ p₀ p
  hard_out_refused why e t = record {
    outcome = refusal_told why;
    matched = e;
    number = t.number;
    message = refl;
    distance = refl;
    tied = refl;
    place = t.place;
  }

module _ {o : Outcome (Unit {0})} {p₀ : ℕ} where
  pub judged_out_allowed : allowed ≡ o → JudgedOut o 0 p₀ p₀
  judged_out_allowed e =
      subst (λ (x : Outcome (Unit {0})). JudgedOut x 0 p₀ p₀) e (record { number = refl; place = refl })

  pub judged_out_refused : {r p : ℕ} (why : Refusal) → refusal_told why ≡ o → Tells why r p₀ p → JudgedOut o r p₀ p
  judged_out_refused {r} {p} why e t =
      subst (λ (x : Outcome (Unit {0})). JudgedOut x r p₀ p) e (record { number = t.number; place = t.place })

module _ (m : ℕ) (a b : List ℤ) (n₀ p₀ : ℕ) where
  pub transformed_out_allowed : {k : ℕ} {a' b' : List ℤ} → allowed ≡ transform_refusal m a (length b) →
      Ran m a b k a' b' → TransformedOut m a b 0 n₀ (1 + m % 2) p₀ p₀ a' b'
  transformed_out_allowed e s = record {
    told = judged_out_allowed e;
    area = area_of_is m ∙ ap (λ (x : Outcome (Unit {0})). leaves x n₀ (area_of m)) e;
    first = s.first;
    second = s.second;
  }

  pub transformed_out_refused : {r p : ℕ} (why : Refusal) → refusal_told why ≡ transform_refusal m a (length b) →
      Tells why r p₀ p → TransformedOut m a b r n₀ n₀ p₀ p a b
  transformed_out_refused why e t =
      let kept = ran_refused m a b (refusal_number why) (refusal_carries why) (sym e) in
      record {
        told = judged_out_refused why e t;
        area = ap (λ (x : Outcome (Unit {0})). leaves x n₀ (area_of m)) e;
        first = kept.first;
        second = kept.second;
      }
