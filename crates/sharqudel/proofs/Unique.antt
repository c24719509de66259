-- Only one ending keeps the promise of each call: two that start from the same inputs and the same cells end with the
-- same number, cells and slices written.
-- In order: encode and partner; the pair check; word reading; soft decoding; hard decoding; the question about the
-- transform, and the transform.  Assumes nothing.
use Prim.Native.Nat.{ℕ}
use mathlib.Core.Path.{◌≡◌, sym, ◌∙◌}
use mathlib.Core.Bool.{Bool}
use mathlib.Core.List.{List}
use lib.IntN.{ℤ}
use Rattle.rules.specs.Outcome.{Outcome}
use Rattle.rules.proofs.DecodingLaws.{soft_outcome_unique, hard_outcome_unique}
use Rattle.sharqudel.specs.Out.{SentOut, CheckedOut, ReadOut, SoftOut, HardOut, JudgedOut, TransformedOut}
use Rattle.sharqudel.proofs.CrossingLaws.{kind_of_cong, given_or_cong, carried_or_cong}

module _ {h m g : ℕ} {word d : List ℕ} where
  pub sent_out_unique : {r s : ℕ} {x y : List ℕ} → SentOut h m g word d r x → SentOut h m g word d s y →
      (r ≡ s) × (x ≡ y)
  sent_out_unique p q = (p.number ∙ sym q.number, p.slice ∙ sym q.slice)

module _ {o : Outcome Bool} {b₀ : Bool} {p₀ w₀ : ℕ} where
  pub checked_out_unique : {r s : ℕ} {b c : Bool} {i j v w : ℕ} → CheckedOut o r b₀ b p₀ i w₀ v →
      CheckedOut o s b₀ c p₀ j w₀ w → (r ≡ s) × (b ≡ c) × (i ≡ j) × (v ≡ w)
  checked_out_unique p q = (
    p.number ∙ sym q.number,
    p.pair ∙ sym q.pair,
    p.place ∙ sym q.place,
    p.which ∙ sym q.which,
  )

module _ {o : Outcome ℕ} {g₀ p₀ : ℕ} where
  pub read_out_unique : {r s g k i j : ℕ} → ReadOut o r g₀ g p₀ i → ReadOut o s g₀ k p₀ j →
      (r ≡ s) × (g ≡ k) × (i ≡ j)
  read_out_unique p q = (p.number ∙ sym q.number, p.message ∙ sym q.message, p.place ∙ sym q.place)

pub soft_out_unique : {h m : ℕ} {ys : List ℤ} {r s g₀ g k : ℕ} {v₀ v w : ℤ} {t₀ t u : Bool} →
    SoftOut h m ys r g₀ g v₀ v t₀ t → SoftOut h m ys s g₀ k v₀ w t₀ u → (r ≡ s) × (g ≡ k) × (v ≡ w) × (t ≡ u)
soft_out_unique {h} {m} {ys} {g₀ = g₀} {v₀ = v₀} {t₀ = t₀} p q =
    let e = soft_outcome_unique h m ys p.outcome q.outcome p.heard q.heard in (
      p.number ∙ kind_of_cong e ∙ sym q.number,
      p.message ∙ given_or_cong e (λ a. a.message) g₀ ∙ sym q.message,
      p.correlation ∙ given_or_cong e (λ a. a.value) v₀ ∙ sym q.correlation,
      p.tied ∙ given_or_cong e (λ a. a.tied) t₀ ∙ sym q.tied,
    )

pub hard_out_unique : {h m : ℕ} {word : List ℕ} {r s g₀ g k d₀ d d' : ℕ} {t₀ t u : Bool} {p₀ i j : ℕ} →
    HardOut h m word r g₀ g d₀ d t₀ t p₀ i → HardOut h m word s g₀ k d₀ d' t₀ u p₀ j →
    (r ≡ s) × (g ≡ k) × (d ≡ d') × (t ≡ u) × (i ≡ j)
hard_out_unique {h} {m} {word} {g₀ = g₀} {d₀ = d₀} {t₀ = t₀} {p₀ = p₀} p q =
    let e = hard_outcome_unique h m word p.outcome q.outcome p.matched q.matched in (
      p.number ∙ kind_of_cong e ∙ sym q.number,
      p.message ∙ given_or_cong e (λ a. a.message) g₀ ∙ sym q.message,
      p.distance ∙ given_or_cong e (λ a. a.value) d₀ ∙ sym q.distance,
      p.tied ∙ given_or_cong e (λ a. a.tied) t₀ ∙ sym q.tied,
      p.place ∙ carried_or_cong e 0 p₀ ∙ sym q.place,
    )

pub judged_out_unique : {o : Outcome (Unit {0})} {p₀ r s i j : ℕ} → JudgedOut o r p₀ i → JudgedOut o s p₀ j →
    (r ≡ s) × (i ≡ j)
judged_out_unique p q = (p.number ∙ sym q.number, p.place ∙ sym q.place)

module _ {m : ℕ} {a b : List ℤ} {n₀ p₀ : ℕ} where
  pub transformed_out_unique : {r s n k i j : ℕ} {a' b' c' d' : List ℤ} → TransformedOut m a b r n₀ n p₀ i a' b' →
      TransformedOut m a b s n₀ k p₀ j c' d' → (r ≡ s) × (n ≡ k) × (i ≡ j) × (a' ≡ c') × (b' ≡ d')
  transformed_out_unique p q = let told = judged_out_unique p.told q.told in (
    told.0,
    p.area ∙ sym q.area,
    told.1,
    p.first ∙ sym q.first,
    p.second ∙ sym q.second,
  )
