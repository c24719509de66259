-- DEMAND 3 (docs/RULES.md, D3; 001, Theorem 10): how far the words of different messages stand apart, and that hard
-- decoding gives the message sent back where the damage is below half of that.
-- `Symbols h m w` says that every symbol of w is still in range: N symbols below 2^h, of a shape in range.
-- Defines:  Demand3    the claims
-- Proved in proofs/Proved.antt.  Assumes nothing: these are definitions.
use Rattle.std.specs.Prelude.{ℕ, ◌-◌, ◌*◌, ◌^◌, ◌≤◌, ◌<◌, ◌≡◌, true, false, List, ◌≢◌}
use Rattle.rules.specs.Shape.{in_shape, carriers, messages}
use Rattle.rules.specs.Word.{symbol_at}
use Rattle.rules.specs.Symbols.{Symbols}
use Rattle.rules.specs.Distance.{hamming, lee}
use Rattle.rules.specs.Outcome.{gives}
use Rattle.answers.specs.Decoded.{Matched}
use Rattle.answers.specs.Decoded.{matched_told, Matches}
use Rattle.theorems.specs.Names.{word}

pub record Demand3 : Type 0 where
  -- DISTANCES. Words of different messages of one shape differ in at least 2^(m-2) places.
  pub places_apart : (h m g g' : ℕ) → in_shape h m ≡ true → g < messages h m → g' < messages h m → g ≢ g' →
      2 ^ (m - 2) ≤ hamming (carriers m) (word h m g) (word h m g')
  -- With four or eight phases their Lee distance is at least 2^(m-1).
  pub lee_apart : (h m g g' : ℕ) → in_shape h m ≡ true → 2 ≤ h → g < messages h m → g' < messages h m → g ≢ g' →
      2 ^ (m - 1) ≤ lee h (carriers m) (word h m g) (word h m g')
  -- DAMAGE. Two phases: where every symbol is still in range and twice the changed places is below 2^(m-2), hard
  -- decoding gives the message sent, the number of changed places, and no tie.
  pub damage_two : (m g : ℕ) (w : List ℕ) (r : Matched) → Symbols 1 m w → g < messages 1 m →
      let d = hamming (carriers m) (symbol_at w) (word 1 m g) in 2 * d < 2 ^ (m - 2) → Matches 1 m w r →
      matched_told r ≡ gives (record { message = g; value = d; tied = false })
  -- Four phases: the same with the Lee weight of the damage in place of the number, where twice it is below 2^(m-1).
  pub damage_four : (m g : ℕ) (w : List ℕ) (r : Matched) → Symbols 2 m w → g < messages 2 m →
      let d = lee 2 (carriers m) (symbol_at w) (word 2 m g) in 2 * d < 2 ^ (m - 1) → Matches 2 m w r →
      matched_told r ≡ gives (record { message = g; value = d; tied = false })
