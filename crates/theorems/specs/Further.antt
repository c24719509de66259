-- FURTHER FACTS: round trips; what 01 says of correlations, unit soft values and the case of sixteen symbols; peak
-- power (docs/RULES.md, Soft, Distance, Known, Fact).
-- Defines:  Further    the claims
-- Proved in proofs/Proved.antt.  Assumes nothing: these are definitions.
use Rattle.std.specs.Prelude.{ℕ, ◌*◌, ◌≤◌, ◌<◌, ◌≡◌, true, false, List, [], ◌∷◌, eqb, ℤ, pos, nat_abs, ◌+ℤ◌, ◌-ℤ◌}
use Rattle.range.specs.Below.{one_if}
use Rattle.range.specs.Signed.{entry}
use Rattle.rules.specs.Shape.{in_shape, half_turn, carriers, messages}
use Rattle.rules.specs.Label.{label_of}
use Rattle.rules.specs.Word.{symbol_at}
use Rattle.rules.specs.Symbols.{Symbols}
use Rattle.rules.specs.Envelope.{envelope_power}
use Rattle.rules.specs.Distance.{hamming, lee}
use Rattle.rules.specs.Soft.{correlation, clean}
use Rattle.rules.specs.Outcome.{gives}
use Rattle.rules.specs.Refusal.{read_outcome}
use Rattle.reader.specs.Reading.{Reading}
use Rattle.reader.specs.Reading.{reading_told}
use Rattle.answers.specs.Decoded.{Heard}
use Rattle.answers.specs.Decoded.{Matched}
use Rattle.answers.specs.Decoded.{heard_told, matched_told, Hears, Matches}
use Rattle.theorems.specs.Names.{word, partner, Encodes}

pub record Further : Type 0 where
  -- ROUND TRIPS. Encode, then read: the message.
  pub read_back : (h m g : ℕ) (d w : List ℕ) (r : Reading) → Encodes h m g d w → reading_told r ≡ read_outcome h m w →
      reading_told r ≡ gives g
  -- Encode, then hard decoding, for two and four phases: the message, at distance 0, not tied.
  pub hard_back : (h m g : ℕ) (d w : List ℕ) (r : Matched) → h ≤ 2 → Encodes h m g d w → Matches h m w r →
      matched_told r ≡ gives (record { message = g; value = 0; tied = false })
  -- Encode, then soft decoding, for two and four phases, of the word at any amplitude a that sixteen bits hold, with no
  -- noise: the message, with correlation N a, not tied.
  pub soft_back : (h m g a : ℕ) (d w : List ℕ) (r : Heard) → h ≤ 2 → 1 ≤ a → a ≤ 32767 → Encodes h m g d w →
      Hears h m (clean h m a w) r →
      heard_told r ≡ gives (record { message = g; value = pos (carriers m * a); tied = false })
  pub clean_fits : (h m a : ℕ) (w : List ℕ) → a ≤ 32767 → (j : ℕ) → nat_abs (entry (clean h m a w) j) ≤ 32767
  -- THE GREATEST SIZE of a correlation is N times 32,768, that of a soft value being 32,768.
  pub correlation_size : (h m : ℕ) (ys : List ℤ) (l : ℕ) → ((i : ℕ) → nat_abs (entry ys i) ≤ 32768) →
      nat_abs (correlation h m ys l) ≤ carriers m * 32768
  -- UNIT SOFT VALUES of symbols w: the correlation with message g's word is N - 2 distance for two phases, and N -
  -- distance for four.
  pub unit_two : (m g : ℕ) (w : List ℕ) → Symbols 1 m w → correlation 1 m (clean 1 m 1 w) (label_of 1 m g)
      ≡ pos (carriers m) -ℤ pos (2 * hamming (carriers m) (symbol_at w) (word 1 m g))
  pub unit_four : (m g : ℕ) (w : List ℕ) → Symbols 2 m w → correlation 2 m (clean 2 m 1 w) (label_of 2 m g)
      ≡ pos (carriers m) -ℤ pos (lee 2 (carriers m) (symbol_at w) (word 2 m g))
  -- SIXTEEN SYMBOLS: h = 1, m = 4, hard 1001001000011101 gives message 0, distance 1, not tied.
  pub sixteen : (r : Matched) →
      Matches 1 4 (1 ∷ 0 ∷ 0 ∷ 1 ∷ 0 ∷ 0 ∷ 1 ∷ 0 ∷ 0 ∷ 0 ∷ 0 ∷ 1 ∷ 1 ∷ 1 ∷ 0 ∷ 1 ∷ []) r →
      matched_told r ≡ gives (record { message = 0; value = 1; tied = false })
  -- PEAK POWER (the equation in the proof of 001's Theorem 2). At every moment s / 2^r of a symbol period, r from h on,
  -- the envelope powers of word and partner add up to 2 N: 2 N at coordinate 0, and 0 at the others. Each is the square
  -- of a size, so neither is above 2 N, as Theorem 2 says; that last step, one of real numbers, is not stated here.
  pub envelope_together : (h m g r s t : ℕ) → in_shape h m ≡ true → g < messages h m → h ≤ r → t < half_turn r →
      envelope_power h (carriers m) (word h m g) r s t +ℤ envelope_power h (carriers m) (partner h m g) r s t
      ≡ pos (2 * carriers m * one_if (eqb t 0))
