-- The law that the word determines its label: 001 Corollary 4, 01 "What a logger may send". Two words that agree lie at
-- distance 0, and those of two labels do not. In order: for labels of any paths; for messages; so the word of a path
-- that is not in use is no message's.
-- Not here: how far the words of two labels lie apart (Apart).  Assumes nothing.
use Prim.Native.Nat.{ℕ, ◌-◌, ◌≤◌, ◌<◌}
use native.Mathlib.Decide.{ℕ_discrete}
use native.Mathlib.Omega.{arith}
use mathlib.Core.Path.{◌≡◌, sym, ◌∙◌, ap}
use mathlib.Core.List.{List}
use mathlib.Core.Logic.Dec
use mathlib.Core.Logic.{◌≢◌}
use lib.Dec.{T}
use lib.ListN.{length, get_or}
use lib.Pow.{pow_pos}
use Rattle.range.specs.Below.{list_below}
use Rattle.range.proofs.Lists.{list_below_at}
use Rattle.rules.specs.Shape.{phases, carriers, paths_in_use, messages, in_m}
use Rattle.rules.specs.Path.{paths}
use Rattle.rules.specs.Label.{label_path, label_of}
use Rattle.rules.specs.Word.{word_at, word_of}
use Rattle.rules.proofs.Range.{in_m_least}
use Rattle.rules.proofs.SymbolLaws.{word_at_lt}
use Rattle.rules.proofs.Messages.{label_of_inj, label_of_lt}
use Rattle.paths.proofs.Number.{used_lt}
use Rattle.signals.proofs.Weights.{differs, differs_weight, hamming_weigh, weigh_zero_of_agree}
use Rattle.words.proofs.Labels.{label_path_lt}
use Rattle.words.proofs.Forms.{word_of_at}
use Rattle.distances.proofs.Apart.{hamming_listed}

pub word_at_inj : (h m l k : ℕ) → 1 ≤ h → 2 ≤ m → label_path h m l < length (paths m) →
    label_path h m k < length (paths m) →
    ((i : ℕ) → i < carriers m → word_at h m l i ≡ word_at h m k i) → l ≡ k
word_at_inj h m l k one two ll lk same =
    (Dec.not-not (ℕ_discrete l k)).0 (λ n. omega (
      arith,
      pow_pos (m - 2),
      hamming_listed h m l k one two ll lk n,
      hamming_weigh (phases h) (carriers m) _ _ (λ i _. word_at_lt h m l i) (λ i _. word_at_lt h m k i),
      weigh_zero_of_agree (phases h) differs (differs_weight (phases h)) (carriers m) _ _
          (λ i _. word_at_lt h m k i) same,
    ))

module _ (m : ℕ) (range : T (in_m m)) where
  -- the path of a message is one of the list, since it is in use
  message_listed : (h g : ℕ) → g < messages h m → label_path h m (label_of h m g) < length (paths m)
  message_listed h g b = used_lt m _ range (label_path_lt h m (label_of h m g) (label_of_lt h m g b))

  pub word_of_inj : (h g g' : ℕ) → 1 ≤ h → g < messages h m → g' < messages h m →
      word_of h m g ≡ word_of h m g' → g ≡ g'
  word_of_inj h g g' p b b' e =
      let same : (i : ℕ) → i < carriers m → word_at h m (label_of h m g) i ≡ word_at h m (label_of h m g') i =
      λ i l. sym (word_of_at h m g i l) ∙ ap (λ (w : List ℕ). get_or w i 0) e ∙ word_of_at h m g' i l in
      label_of_inj h m g g'
      (word_at_inj h m _ _ p (in_m_least m range) (message_listed h g b) (message_listed h g' b') same)

  pub unused_not_word_of : (h l g : ℕ) → 1 ≤ h → paths_in_use m ≤ label_path h m l →
      label_path h m l < length (paths m) →
      g < messages h m → word_of h m g ≢ list_below (carriers m) (word_at h m l)
  unused_not_word_of h l g p unused ll b e =
      let same : (i : ℕ) → i < carriers m → word_at h m l i ≡ word_at h m (label_of h m g) i =
      λ i c. sym (list_below_at (carriers m) (word_at h m l) i 0 c) ∙ sym (ap (λ (w : List ℕ). get_or w i 0) e)
      ∙ word_of_at h m g i c in
      let q : l ≡ label_of h m g = word_at_inj h m l _ p (in_m_least m range) ll (message_listed h g b) same in
      omega (arith, ap (label_path h m) q, label_path_lt h m (label_of h m g) (label_of_lt h m g b))
