-- What the round trips promise: the slices afterwards, the answer on them, and what comes back where nothing is
-- refused.
-- Defines:  written h m g d w     what encode or partner leaves in a slice that held d, of a word w for message g
--           ReadBack, HardBack, CheckBack  the promises, of slices before and after and the answer r
-- Laws: proofs/TripLaws.antt (only one outcome keeps each).  Assumes nothing: these are definitions.
use Rattle.std.specs.Prelude.{ℕ, ◌≤◌, ◌≡◌, true, false, Ok, List, length}
use Rattle.rules.specs.Word.{word_of, partner_of}
use Rattle.rules.specs.Outcome.{gives, allowed, leaves}
use Rattle.rules.specs.Refusal.{send_refusal, pair_outcome, read_outcome}
use Rattle.pair.specs.Paired.{Paired}
use Rattle.pair.specs.Paired.{paired_told}
use Rattle.reader.specs.Reading.{Reading}
use Rattle.reader.specs.Reading.{reading_told}
use Rattle.answers.specs.Decoded.{Matched}
use Rattle.answers.specs.Decoded.{matched_told, Matches}

abbrev pub written : ℕ → ℕ → ℕ → List ℕ → List ℕ → List ℕ
written h m g d w = leaves (send_refusal h m (length d) g) d w

pub record ReadBack (h m g : ℕ) (d : List ℕ) (r : Reading) (d' : List ℕ) : Type 0 where
  pub slice : d' ≡ written h m g d (word_of h m g)
  pub answer : reading_told r ≡ read_outcome h m d'
  pub back : send_refusal h m (length d) g ≡ allowed → reading_told r ≡ gives g

pub record HardBack (h m g : ℕ) (d : List ℕ) (r : Matched) (d' : List ℕ) : Type 0 where
  pub slice : d' ≡ written h m g d (word_of h m g)
  pub answer : Matches h m d' r
  pub back : send_refusal h m (length d) g ≡ allowed → h ≤ 2 →
      matched_told r ≡ gives (record { message = g; value = 0; tied = false })

pub record CheckBack (h m g : ℕ) (d e : List ℕ) (r : Paired) (d' e' : List ℕ) : Type 0 where
  pub slice : d' ≡ written h m g d (word_of h m g)
  pub other : e' ≡ written h m g e (partner_of h m g)
  pub answer : paired_told r ≡ pair_outcome h m d' e'
  pub back : send_refusal h m (length d) g ≡ allowed → send_refusal h m (length e) g ≡ allowed → r ≡ Ok true
