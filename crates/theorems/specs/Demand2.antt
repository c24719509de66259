-- DEMAND 2 (docs/RULES.md, D2): a message's word is the one that the paper's formula gives, and reading finds its
-- message exactly when it has one; the partner cancels the word's autocorrelation, and the pair check says yes exactly
-- to words that cancel; the decoders answer the greatest correlation and the nearest word.
-- A claim about a call takes what the call ensures as its premise. `Symbols h m w` says that w is N symbols in range.
-- Defines:  Demand2    the claims
-- Proved in proofs/Proved.antt.  Assumes nothing: these are definitions.
use Rattle.std.specs.Prelude.{ℕ, suc, ◌+◌, ◌-◌, ◌*◌, ◌/◌, ◌%◌, ◌^◌, ◌≤◌, ◌<◌, ◌≡◌, true, false, Ok, ◌≢◌, ◌↔◌}
use Rattle.std.specs.Prelude.{ℤ, pos, ◌+ℤ◌, length, get_or}
use mathlib.Core.List.{List, [], Memᴰ}
use Rattle.range.specs.Below.{sum_below, list_below, ◌! }
use Rattle.rules.specs.Shape.{in_m, in_shape, phases, half_turn, carriers, paths_in_use, messages}
use Rattle.rules.specs.Place.{digit}
use Rattle.rules.specs.Path.{head_of, IsPath, Before, paths, path_at}
use Rattle.rules.specs.Label.{labels, label_path, coefficient, constant, label_parts, label_of}
use Rattle.rules.specs.Word.{word_at, word_of, partner_of, symbol_at}
use Rattle.rules.specs.Symbols.{Symbols}
use Rattle.rules.specs.Pair.{pair_count, GolayPair}
use Rattle.rules.specs.Autocorrelation.{autocorrelation, Cancel}
use Rattle.rules.specs.Distance.{distance_to}
use Rattle.rules.specs.Soft.{correlation}
use Rattle.rules.specs.Best.{Tied, Greatest, Nearest}
use Rattle.rules.specs.Outcome.{gives, refuses}
use Rattle.rules.specs.Refusal.{pair_outcome, read_outcome}
use Rattle.encoder.specs.Sent.{Written}
use Rattle.encoder.specs.Sent.{Sent}
use Rattle.pair.specs.Paired.{Paired}
use Rattle.pair.specs.Paired.{paired_told}
use Rattle.reader.specs.Reading.{Reading}
use Rattle.reader.specs.Reading.{reading_told}
use Rattle.answers.specs.Decoded.{Loudest}
use Rattle.answers.specs.Decoded.{Closest}
use Rattle.answers.specs.Decoded.{Hears, Matches}
use Rattle.theorems.specs.Names.{word, partner, Encodes, Partners}

pub record Demand2 : Type 0 where
  -- PATHS. The list of paths holds exactly the orders of 1..m whose first is less than their last; they stand in
  -- dictionary order, which has a direction; there are m!/2; those in use are among them, and are as many as a whole
  -- number of bits counts.
  pub path_listed : (m : ℕ) (p : List ℕ) → Memᴰ p (paths m) ↔ IsPath m p
  pub paths_order : (m i j : ℕ) → i < j → j < length (paths m) → Before (path_at m i) (path_at m j)
  pub before_asymm : (p q : List ℕ) → Before p q → Before q p → ⊥
  pub before_trans : (p q s : List ℕ) → Before p q → Before q s → Before p s
  pub paths_number : (m : ℕ) → 2 ≤ m → 2 * length (paths m) ≡ m !
  pub paths_used : (m : ℕ) → in_m m ≡ true →
      (paths_in_use m ≤ length (paths m)) × (length (paths m) < 2 * paths_in_use m)
  -- LABELS. Label numbers are in label order: by path number, then c_1, .., c_m, then c. The bits of a message number
  -- are those of its path number, highest, then of c_1 to c_m, then of c, h plain binary bits each. A message has a
  -- path in use and coefficients below 2^h, and every choice of these is a message's.
  pub label_order : (h m l k : ℕ) → (l < k) ↔ Before (label_parts h m l) (label_parts h m k)
  pub message_bits_lem : (h m g : ℕ) → let l = label_of h m g in (label_path h m l ≡ g / 2 ^ (h * (m + 1)))
      × ((k : ℕ) → coefficient h m l k ≡ g / 2 ^ (h * (m + 1 - k)) % 2 ^ h) × (constant h l ≡ g % 2 ^ h)
  pub message_parts : (h m g : ℕ) → in_shape h m ≡ true → g < messages h m → let l = label_of h m g in
      (label_path h m l < paths_in_use m) × ((k : ℕ) → coefficient h m l k < phases h) × (constant h l < phases h)
  pub parts_message : (h m n : ℕ) (c : ℕ → ℕ) (c0 : ℕ) → in_shape h m ≡ true → n < paths_in_use m →
      ((k : ℕ) → 1 ≤ k → k ≤ m → c k < phases h) → c0 < phases h →
      (g : ℕ) × (g < messages h m) × (label_path h m (label_of h m g) ≡ n)
      × ((k : ℕ) → 1 ≤ k → k ≤ m → coefficient h m (label_of h m g) k ≡ c k) × (constant h (label_of h m g) ≡ c0)
  -- WORDS (001, Corollary 4). Place i of message g's word, written out over its path p: p(1), .., p(m) are entries 0 to
  -- m - 1 of the list, and x k is the digit x_k of the place.
  pub word_formula : (h m g i : ℕ) → in_shape h m ≡ true → g < messages h m → i < carriers m →
      let l = label_of h m g in let p = path_at m (label_path h m l) in let x = digit m i in
      IsPath m p × (symbol_at (word_of h m g) i
      ≡ (2 ^ (h - 1) * sum_below (m - 1) (λ k. x (get_or p k 0) * x (get_or p (suc k) 0))
      + sum_below m (λ k. coefficient h m l (suc k) * x (suc k)) + constant h l) % 2 ^ h)
  -- The partner (001, Theorem 3): the word plus 2^(h-1) x_p(1).
  pub partner_formula : (h m g i : ℕ) → i < carriers m → symbol_at (partner_of h m g) i
      ≡ (symbol_at (word_of h m g) i
      + 2 ^ (h - 1) * digit m i (head_of (path_at m (label_path h m (label_of h m g))))) % 2 ^ h
  -- Encode writes the word and partner the partner, for every message of every shape, wherever the slice has N places.
  pub encode_writes : (h m g : ℕ) (d w : List ℕ) (r : Written) → in_shape h m ≡ true → length d ≡ carriers m →
      g < messages h m → Sent h m g (word_of h m g) d r w → (r ≡ Ok tt) × (w ≡ word_of h m g)
  pub partner_writes : (h m g : ℕ) (d w : List ℕ) (r : Written) → in_shape h m ≡ true → length d ≡ carriers m →
      g < messages h m → Sent h m g (partner_of h m g) d r w → (r ≡ Ok tt) × (w ≡ partner_of h m g)
  pub partner_not_word : (h m g : ℕ) → in_shape h m ≡ true → g < messages h m → partner_of h m g ≢ word_of h m g
  -- READING of any symbols: message g exactly where g's word is these symbols; 5 exactly where no message has them.
  pub read_finds : (h m : ℕ) (w : List ℕ) (g : ℕ) (r : Reading) → reading_told r ≡ read_outcome h m w →
      (reading_told r ≡ gives g) ↔ ((in_shape h m ≡ true) × (g < messages h m) × (word_of h m g ≡ w))
  pub read_none : (h m : ℕ) (w : List ℕ) (r : Reading) → reading_told r ≡ read_outcome h m w →
      (reading_told r ≡ refuses 5 []) ↔ (Symbols h m w × ((g : ℕ) → g < messages h m → word_of h m g ≢ w))
  -- So it refuses 5 the word of every label l whose path is not in use.
  pub read_unused : (h m l : ℕ) (r : Reading) → in_shape h m ≡ true → paths_in_use m ≤ label_path h m l →
      label_path h m l < length (paths m) →
      reading_told r ≡ read_outcome h m (list_below (carriers m) (word_at h m l)) →
      reading_told r ≡ refuses 5 []
  -- PAIRS (001, Theorem 3). The word and the partner of every message of every shape are a pair, and the pair check
  -- says yes to what encode and partner write.
  pub word_partner : (h m g : ℕ) → in_shape h m ≡ true → g < messages h m → GolayPair h m (word h m g) (partner h m g)
  pub written_yes : (h m g : ℕ) (d e w v : List ℕ) (r : Paired) → Encodes h m g d w → Partners h m g e v →
      paired_told r ≡ pair_outcome h m w v → r ≡ Ok true
  -- The counts are 001's condition (Definition 1): for any two words of any length, every h from 1 on and every shift
  -- u, they agree at u exactly where C_a(u) + C_b(u) = 0.
  pub counts_iff_zero : (h n : ℕ) (a b : ℕ → ℕ) (u : ℕ) → 1 ≤ h →
      ((k : ℕ) → k < phases h → pair_count h n a b u k ≡ pair_count h n a b u (k + half_turn h))
      ↔ ((t : ℕ) → t < half_turn h → autocorrelation h n a u t +ℤ autocorrelation h n b u t ≡ pos 0)
  -- The partner cancels the word's aperiodic autocorrelation at every shift from 1 to N - 1; from N on the sums are
  -- empty, and at -u the autocorrelation is the conjugate of that at u.
  pub partner_cancels : (h m g : ℕ) → in_shape h m ≡ true → g < messages h m → Cancel h m (word h m g) (partner h m g)
  -- Of any two words of a shape, the pair check says yes exactly to Golay pairs, which are those that cancel, and no
  -- exactly to the others.
  pub yes_iff_pair : (h m : ℕ) (w v : List ℕ) (r : Paired) → Symbols h m w → Symbols h m v →
      paired_told r ≡ pair_outcome h m w v → (r ≡ Ok true) ↔ GolayPair h m (symbol_at w) (symbol_at v)
  pub yes_iff_cancel : (h m : ℕ) (w v : List ℕ) (r : Paired) → Symbols h m w → Symbols h m v →
      paired_told r ≡ pair_outcome h m w v → (r ≡ Ok true) ↔ Cancel h m (symbol_at w) (symbol_at v)
  pub no_iff_not_cancel : (h m : ℕ) (w v : List ℕ) (r : Paired) → Symbols h m w → Symbols h m v →
      paired_told r ≡ pair_outcome h m w v → (r ≡ Ok false) ↔ (Cancel h m (symbol_at w) (symbol_at v) → ⊥)
  -- A word paired with itself is never a pair, and gets a no.
  pub self_not_pair : (h m : ℕ) (a : ℕ → ℕ) → 1 ≤ h → 1 ≤ m → GolayPair h m a a → ⊥
  pub self_no : (h m : ℕ) (w : List ℕ) (r : Paired) → Symbols h m w → paired_told r ≡ pair_outcome h m w w →
      r ≡ Ok false
  -- DECODERS, for two and four phases. What is found has the greatest correlation of all words of the shape, or the
  -- least distance, and is the first in label order that has it.
  pub soft_greatest : (h m : ℕ) (ys : List ℤ) (a : Loudest) → Hears h m ys (Ok a) →
      Greatest h m ys (label_of h m a.message.0) a.value
  pub hard_nearest : (h m : ℕ) (w : List ℕ) (a : Closest) → Matches h m w (Ok a) →
      Nearest h m w (label_of h m a.message.0) a.value
  -- It is tied exactly where another label of the shape has that value too.
  pub soft_tied : (h m : ℕ) (ys : List ℤ) (a : Loudest) → Hears h m ys (Ok a) →
      Tied (labels h m) (correlation h m ys) (label_of h m a.message.0) a.value a.tied
  pub hard_tied : (h m : ℕ) (w : List ℕ) (a : Closest) → Matches h m w (Ok a) →
      Tied (labels h m) (distance_to h m w) (label_of h m a.message.0) a.value a.tied
