-- Hard decoding of a word with damage. In order: every answer tells what the one right answer tells; that is the
-- message sent where the damage is below half of the least distance, by differing places and by Lee weight.
-- Not here: that the word sent stays the nearest (crate signals, Damage), how far words stand apart (crate distances),
-- words as they were written (RoundTrips).  Assumes nothing.
use Prim.Native.Nat.{ℕ, ◌*◌, ◌^◌, ◌-◌, ◌≤◌, ◌<◌}
use native.Mathlib.Nat.{lt_of_lt_of_le}
use native.Mathlib.Omega.{arith}
use mathlib.Core.Path.{◌≡◌, sym}
use mathlib.Core.Bool.{false}
use mathlib.Core.List.{List}
use Rattle.rules.specs.Shape.{carriers, messages}
use Rattle.rules.specs.Label.{label_of}
use Rattle.rules.specs.Word.{symbol_at}
use Rattle.rules.specs.Symbols.{Symbols}
use Rattle.rules.specs.Distance.{hamming, lee, distance}
use Rattle.rules.specs.Outcome.{gives}
use Rattle.rules.specs.Decoding.{HardAnswer, Near}
use Rattle.rules.proofs.Range.{in_shape_range, range_in_m}
use Rattle.rules.proofs.RefusalLaws.{hard_allowed}
use Rattle.rules.proofs.DecodingLaws.{hard_outcome_unique}
use Rattle.signals.proofs.Damage.{near_of_damage}
use Rattle.rules.proofs.Messages.{label_of_lt}
use Rattle.distances.proofs.Apart.{hamming_apart, lee_apart}
use Rattle.answers.specs.Decoded.{Matched}
use Rattle.answers.specs.Decoded.{matched_told, Matches}
use Rattle.theorems.specs.Names.{word}

-- symbols in range are not refused, so what is right is what every answer tells
pub matched_of_near : (h m : ℕ) (w : List ℕ) (a : HardAnswer) (t : Matched) → h ≤ 2 → Symbols h m w → Near h m w a →
    Matches h m w t → matched_told t ≡ gives a
matched_of_near h m w a t two symbols near matches = hard_outcome_unique h m w (matched_told t) (gives a) matches
    (record {
      taken = hard_allowed h m w (record { few = two; symbols = symbols });
      right = near;
    })

pub damage_two : (m g : ℕ) (w : List ℕ) (t : Matched) → Symbols 1 m w → g < messages 1 m →
    let d = hamming (carriers m) (symbol_at w) (word 1 m g) in 2 * d < 2 ^ (m - 2) → Matches 1 m w t →
    matched_told t ≡ gives (record { message = g; value = d; tied = false })
unfolding distance
damage_two m g w t symbols inside small =
    let r = in_shape_range 1 m symbols.shape in
    matched_of_near 1 m w _ t (omega arith) symbols
    (near_of_damage 1 m w g inside symbols.below (λ k b n. lt_of_lt_of_le small
    (hamming_apart 1 m (label_of 1 m g) k r.h_least (range_in_m 1 m r) (label_of_lt 1 m g inside) b (λ e. n (sym e)))))

pub damage_four : (m g : ℕ) (w : List ℕ) (t : Matched) → Symbols 2 m w → g < messages 2 m →
    let d = lee 2 (carriers m) (symbol_at w) (word 2 m g) in 2 * d < 2 ^ (m - 1) → Matches 2 m w t →
    matched_told t ≡ gives (record { message = g; value = d; tied = false })
unfolding distance
damage_four m g w t symbols inside small =
    let r = in_shape_range 2 m symbols.shape in
    matched_of_near 2 m w _ t (omega arith) symbols
    (near_of_damage 2 m w g inside symbols.below (λ k b n. lt_of_lt_of_le small
    (lee_apart 2 m (label_of 2 m g) k (omega arith) (range_in_m 2 m r) (label_of_lt 2 m g inside) b (λ e. n (sym e)))))
