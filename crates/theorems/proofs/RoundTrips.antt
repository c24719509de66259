-- What the decoders and word reading answer to a word as it was written. In order: how far the word lies from itself
-- and from others; hard decoding of the word, soft decoding of its clean values; the same, and word reading, of what
-- encode leaves in a slice; 01's case of sixteen symbols.
-- Not here: words with damage (Damage), that the word sent has the greatest correlation (crate signals, Noiseless), how
-- far words stand apart (crate distances).  Assumes nothing.
use Prim.Native.Nat.{ℕ, ◌*◌, ◌≤◌, ◌<◌}
use native.Mathlib.Omega.{arith}
use mathlib.Core.Path.{◌≡◌, refl, sym, ◌∙◌}
use mathlib.Core.Bool.{true, false}
use mathlib.Core.List.{List, [], ◌∷◌, flat_map}
use mathlib.Core.Logic.{◌≢◌}
use lib.Dec.{lit<}
use lib.IntN.{ℤ, pos}
use Rattle.range.specs.Below.{sum_below, count_below, first_below, list_below}
use Rattle.rules.specs.Shape.{path_bits, in_shape, phases, carriers, messages}
use Rattle.rules.specs.Place.{digit}
use Rattle.rules.specs.Path.{keep, without, orders, up_to, paths, path_at}
use Rattle.rules.specs.Label.{labels, label_path, coefficient, constant, label_of}
use Rattle.rules.specs.Word.{links, form_at, word_at, word_of, symbol_at}
use Rattle.rules.specs.Distance.{hamming, distance}
use Rattle.rules.specs.Soft.{clean}
use Rattle.rules.specs.Outcome.{gives}
use Rattle.rules.specs.Table.{bad_symbol}
use Rattle.rules.specs.Refusal.{read_outcome}
use Rattle.rules.specs.Decoding.{Loud, Near}
use Rattle.rules.proofs.Range.{InRange, in_shape_range, range_in_m}
use Rattle.rules.proofs.SymbolLaws.{word_at_lt, symbols_of_none}
use Rattle.rules.proofs.DecodingLaws.{soft_outcome_unique}
use Rattle.signals.proofs.Metric.{distance_zero_of_agree, distance_comm, distance_triangle}
use Rattle.signals.proofs.Damage.{near_of_damage}
use Rattle.signals.proofs.Noiseless.{length_clean, loud_of_clean}
use Rattle.rules.proofs.RefusalLaws.{soft_allowed}
use Rattle.rules.proofs.Messages.{label_of_lt}
use Rattle.words.proofs.Forms.{word_of_at, word_of_lt}
use Rattle.distances.proofs.Apart.{distance_apart}
use Rattle.reader.specs.Reading.{Reading}
use Rattle.reader.specs.Reading.{reading_told}
use Rattle.answers.specs.Decoded.{Heard}
use Rattle.answers.specs.Decoded.{Matched}
use Rattle.answers.specs.Decoded.{heard_told, matched_told, Hears, Matches}
use Rattle.theorems.specs.Names.{word, Encodes}
use Rattle.theorems.specs.Rows.{read_gives}
use Rattle.theorems.proofs.Slices.{word_of_symbols, done_shape, done_message, done_word}
use Rattle.theorems.proofs.Rows.{read_only}
use Rattle.theorems.proofs.Damage.{matched_of_near, damage_two}

-- a word as it was written
module _ (h m g : ℕ) (shape : in_shape h m ≡ true) (inside : g < messages h m) where
  abbrev sent : List ℕ
  sent = word_of h m g

  abbrev N : ℕ
  N = carriers m

  range : InRange h m
  range = in_shape_range h m shape

  sent_same : distance h N (symbol_at sent) (word h m g) ≡ 0
  sent_same =
      distance_zero_of_agree h N (symbol_at sent) (word h m g) (word_of_lt h m g)
      (λ i _. word_at_lt h m (label_of h m g) i) (word_of_at h m g)

  -- how far the word of any other label is from it
  sent_apart : (k : ℕ) → k < labels h m → k ≢ label_of h m g → 1 ≤ distance h N (word h m g) (word_at h m k)
  sent_apart k b n =
      distance_apart h m (label_of h m g) k range.h_least (range_in_m h m range) (label_of_lt h m g inside) b
      (λ e. n (sym e))

  sent_far : (k : ℕ) → k < labels h m → k ≢ label_of h m g → 1 ≤ distance h N (symbol_at sent) (word_at h m k)
  sent_far k b n =
      let below : (i : ℕ) → i < N → word h m g i < phases h = λ i _. word_at_lt h m (label_of h m g) i in
      omega (
        arith,
        sent_same,
        sent_apart k b n,
        distance_comm h N (symbol_at sent) (word h m g) (word_of_lt h m g) below,
        distance_triangle h N (word h m g) (symbol_at sent) below (word_of_lt h m g) (word_at h m k)
            (λ i _. word_at_lt h m k i),
      )

  sent_near : Near h m sent (record { message = g; value = 0; tied = false })
  sent_near =
      rw sent_same at (near_of_damage h m sent g inside (word_of_lt h m g) (λ k b n. rw sent_same (sent_apart k b n)))

  sent_loud : (a : ℕ) → h ≤ 2 → 1 ≤ a →
      Loud h m (clean h m a sent) (record { message = g; value = pos (N * a); tied = false })
  sent_loud a two some = loud_of_clean h m a sent g range.h_least two some inside (word_of_at h m g) sent_far

pub hard_back : (h m g : ℕ) (d w : List ℕ) (t : Matched) → h ≤ 2 → Encodes h m g d w → Matches h m w t →
    matched_told t ≡ gives (record { message = g; value = 0; tied = false })
hard_back h m g d w t two s matches =
    matched_of_near h m (word_of h m g) (record { message = g; value = 0; tied = false }) t two
    (word_of_symbols h m g (done_shape s)) (sent_near h m g (done_shape s) (done_message s))
    (rw (done_word s) at matches)

pub soft_back : (h m g a : ℕ) (d w : List ℕ) (t : Heard) → h ≤ 2 → 1 ≤ a → Encodes h m g d w →
    Hears h m (clean h m a w) t →
    heard_told t ≡ gives (record { message = g; value = pos (carriers m * a); tied = false })
soft_back h m g a d w t two some s hears =
    let ys : List ℤ = clean h m a (word_of h m g) in
    soft_outcome_unique h m ys (heard_told t)
    (gives (record { message = g; value = pos (carriers m * a); tied = false }))
    (rw (done_word s) at hears) (record {
      taken = soft_allowed h m ys
          (record { shape = done_shape s; few = two; long = length_clean h m a (word_of h m g) });
      right = sent_loud h m g (done_shape s) (done_message s) a two some;
    })

pub read_back : (h m g : ℕ) (d w : List ℕ) (t : Reading) → Encodes h m g d w → reading_told t ≡ read_outcome h m w →
    reading_told t ≡ gives g
read_back h m g d w t s told =
    told ∙ sym (read_only h m w (read_gives g (done_shape s) (done_message s) (sym (done_word s))))

-- 01: h = 1, m = 4, hard 1001001000011101: one place is changed in message 0's word, and two is below 4
pub sixteen : (r : Matched) → Matches 1 4 (1 ∷ 0 ∷ 0 ∷ 1 ∷ 0 ∷ 0 ∷ 1 ∷ 0 ∷ 0 ∷ 0 ∷ 0 ∷ 1 ∷ 1 ∷ 1 ∷ 0 ∷ 1 ∷ []) r →
    matched_told r ≡ gives (record { message = 0; value = 1; tied = false })
unfolding bad_symbol first_below hamming count_below sum_below word_at form_at links path_at paths orders up_to
    list_below without keep digit label_path coefficient constant flat_map label_of path_bits
sixteen r =
    let w : List ℕ = 1 ∷ 0 ∷ 0 ∷ 1 ∷ 0 ∷ 0 ∷ 1 ∷ 0 ∷ 0 ∷ 0 ∷ 0 ∷ 1 ∷ 1 ∷ 1 ∷ 0 ∷ 1 ∷ [] in
    damage_two 4 0 w r (symbols_of_none 1 4 w refl refl refl) (lit< tt) (lit< tt)
