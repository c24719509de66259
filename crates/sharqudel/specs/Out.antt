-- What comes out of each exported call: its number r, and what every cell and every slice that it may write holds
-- afterwards, in terms of the outcome that 01 gives the call. A name with ₀ is what a cell held before.
-- Defines:  SentOut h m g word d r d'               encode and partner: the slice held d, and then d'
--           CheckedOut o r b₀ b p₀ p w₀ w           the pair check: whether a pair, the place, which word
--           ReadOut o r g₀ g p₀ p                   word reading: the message, the place
--           SoftOut h m ys r g₀ g v₀ v t₀ t         soft decoding: the message, its correlation, tied
--           HardOut h m w r g₀ g d₀ d t₀ t p₀ p     hard decoding: the message, its distance, tied, the place
--           JudgedOut o r p₀ p                      the question about the transform: the place
--           TransformedOut m a b r n₀ n p₀ p a' b'  the transform: the number of the area that holds the spectrum,
--                                                   the place, and the areas, which held a and b
-- Where o is a parameter it is the outcome that rules Refusal defines. The decoders' outcome is the one that satisfies
-- rules Decoding. Laws: proofs/OutLaws.antt, Unique.antt (only one ending satisfies each).
-- Assumes nothing: these are definitions.
use Rattle.std.specs.Prelude.{ℕ, ◌≡◌, Bool, List, ℤ, length}
use Rattle.rules.specs.Outcome.{Outcome, leaves}
use Rattle.rules.specs.Refusal.{send_refusal, transform_refusal}
use Rattle.rules.specs.Areas.{first_after, second_after}
use Rattle.rules.specs.Decoding.{SoftAnswer, HardAnswer, SoftOutcome, HardOutcome}
use Rattle.sharqudel.specs.Crossing.{kind_of, given_or, carried_or, area_of}

pub record SentOut (h m g : ℕ) (word d : List ℕ) (r : ℕ) (d' : List ℕ) : Type 0 where
  pub number : r ≡ kind_of (send_refusal h m (length d) g)
  pub slice : d' ≡ leaves (send_refusal h m (length d) g) d word

pub record CheckedOut (o : Outcome Bool) (r : ℕ) (b₀ b : Bool) (p₀ p w₀ w : ℕ) : Type 0 where
  pub number : r ≡ kind_of o
  pub pair : b ≡ given_or o (λ x. x) b₀
  pub place : p ≡ carried_or o 0 p₀
  pub which : w ≡ carried_or o 1 w₀

pub record ReadOut (o : Outcome ℕ) (r g₀ g p₀ p : ℕ) : Type 0 where
  pub number : r ≡ kind_of o
  pub message : g ≡ given_or o (λ x. x) g₀
  pub place : p ≡ carried_or o 0 p₀

pub record SoftOut (h m : ℕ) (ys : List ℤ) (r g₀ g : ℕ) (v₀ v : ℤ) (t₀ t : Bool) : Type 0 where
  pub outcome : Outcome SoftAnswer
  pub heard : SoftOutcome h m ys outcome
  pub number : r ≡ kind_of outcome
  pub message : g ≡ given_or outcome (λ a. a.message) g₀
  pub correlation : v ≡ given_or outcome (λ a. a.value) v₀
  pub tied : t ≡ given_or outcome (λ a. a.tied) t₀

pub record HardOut (h m : ℕ) (w : List ℕ) (r g₀ g d₀ d : ℕ) (t₀ t : Bool) (p₀ p : ℕ) : Type 0 where
  pub outcome : Outcome HardAnswer
  pub matched : HardOutcome h m w outcome
  pub number : r ≡ kind_of outcome
  pub message : g ≡ given_or outcome (λ a. a.message) g₀
  pub distance : d ≡ given_or outcome (λ a. a.value) d₀
  pub tied : t ≡ given_or outcome (λ a. a.tied) t₀
  pub place : p ≡ carried_or outcome 0 p₀

pub record JudgedOut (o : Outcome (Unit {0})) (r p₀ p : ℕ) : Type 0 where
  pub number : r ≡ kind_of o
  pub place : p ≡ carried_or o 0 p₀

pub record TransformedOut (m : ℕ) (a b : List ℤ) (r n₀ n p₀ p : ℕ) (a' b' : List ℤ) : Type 0 where
  pub told : JudgedOut (transform_refusal m a (length b)) r p₀ p
  pub area : n ≡ leaves (transform_refusal m a (length b)) n₀ (area_of m)
  pub first : a' ≡ first_after m a b
  pub second : b' ≡ second_after m a b
