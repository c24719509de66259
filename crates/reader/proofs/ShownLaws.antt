-- What the symbols show of a label. In order: a coefficient's bound; what is shown as the number of the label's parts;
-- one coefficient more; its bounds; the label that is shown with a path; a word shows its own label; the test of a
-- message; the message that has a word, and where no message has it.  Assumes nothing.
use Prim.Native.Nat.{ℕ, zero, suc, ◌+◌, ◌-◌, ◌*◌, ◌^◌, ◌≤◌, ◌<◌}
use native.Mathlib.Nat.{lt_irrefl, pow-zero, pow-suc, le_refl, lt_trans, mul-le-mul}
use native.Mathlib.Nat.{lt_of_lt_of_le, mul-le-mul_left}
use native.Mathlib.Numerals.{add-one}
use native.Mathlib.Omega.{arith}
use mathlib.Core.Path.{◌≡◌, refl, sym, ◌∙◌, ap, ap₂, subst}
use mathlib.Core.Logic.{◌↔◌}
use mathlib.Core.Bool.{Bool, true, false≢true}
use mathlib.Core.List.{List}
use mathlib.Core.Option.{none, some}
use lib.Dec.{eqb}
use lib.ListN.{get_or}
use lib.Arith.{digits_lt}
use lib.Pow.{pow_pos, pow_mono}
use lib.Seq.{ext_get_or}
use borrow.Author.Tests.{eq-eqb, eqb-true}
use Rattle.range.specs.Below.{all_below}
use Rattle.range.proofs.Tests.{false_of_not_true, all_below_of, all_below_at, first_below_some, first_below_none}
use Rattle.range.proofs.Tests.{first_below_at, first_below_nowhere}
use Rattle.rules.specs.Shape.{greatest_h, phases, carriers, paths_in_use, messages, most_coefficient_bits}
use Rattle.rules.specs.Label.{labels, label_path, coefficient, constant, label_of, message_of}
use Rattle.rules.specs.Symbols.{Symbols}
use Rattle.rules.specs.Word.{word_at, word_of}
use Rattle.rules.specs.Pair.{minus}
use Rattle.rules.specs.Word.{symbol_at}
use Rattle.rules.specs.Table.{message_with}
use Rattle.rules.proofs.Range.{InRange, in_shape_range, range_in_m, coefficient_bits_le, messages_most}
use Rattle.rules.proofs.Range.{phases_pow, phases_most}
use Rattle.rules.proofs.Differences.{minus_lt}
use Rattle.places.proofs.Digits.{one_lt}
use Rattle.words.proofs.Labels.{number_of, number_of_lt, number_of_back, label_path_lt}
use Rattle.rules.proofs.Messages.{label_of_lt, message_of_lt, message_of_label_of}
use Rattle.words.proofs.Horner.{number_of_split, number_of_cong}
use Rattle.words.proofs.Forms.{length_word_of, word_of_at}
use Rattle.words.proofs.Readings.{word_at_zero, coefficient_read}
use Rattle.words.proofs.Used.{label_path_good}
use Rattle.distances.proofs.Inject.{word_of_inj}
use Rattle.reader.specs.Shown.{shown, shown_up_to, low_of, label_with}

pub shown_lt : (h m : ℕ) (w : List ℕ) (k : ℕ) → shown h m w k < phases h
unfolding shown
shown_lt h m w k = minus_lt (phases h) (symbol_at w (2 ^ (m - k))) (symbol_at w 0) (pow_pos h)

-- the coefficient, as code makes it
pub shown_of : (h m : ℕ) (w : List ℕ) (k q at d : ℕ) → q ≡ phases h → at ≡ 2 ^ (m - k) →
    d ≡ minus q (symbol_at w at) (symbol_at w 0) → d ≡ shown h m w k
unfolding shown
shown_of h m w k q at d b p e = e ∙ ap₂ (λ (x i : ℕ). minus x (symbol_at w i) (symbol_at w 0)) b p

shown_up_to_is : (h m : ℕ) (w : List ℕ) (k c0 : ℕ) →
    shown_up_to h m w k * phases h + c0 ≡ number_of h k 0 (shown h m w) c0
unfolding shown_up_to number_of
shown_up_to_is h m w zero c0 = refl
shown_up_to_is h m w (suc k) c0 = ap (λ (x : ℕ). x * phases h + c0) (shown_up_to_is h m w k (shown h m w (suc k)))

-- one coefficient more
pub shown_up_to_next : (h m : ℕ) (w : List ℕ) (k : ℕ) →
    shown_up_to h m w k * phases h + shown h m w (k + 1) ≡ shown_up_to h m w (k + 1)
unfolding shown_up_to
shown_up_to_next h m w k = rw (add-one k)

shown_up_to_lt : (h m : ℕ) (w : List ℕ) (k : ℕ) → shown_up_to h m w k < phases h ^ k
unfolding shown_up_to
shown_up_to_lt h m w zero = rw pow-zero (le_refl 1)
shown_up_to_lt h m w (suc k) = rw (pow-suc (phases h) k) (digits_lt (shown_up_to_lt h m w k) (shown_lt h m w (suc k)))

-- the number that is read stays far below the width of the code's numbers
shown_up_to_small : (h m : ℕ) (w : List ℕ) (k : ℕ) → InRange h m → k ≤ m →
    shown_up_to h m w k < 2 ^ most_coefficient_bits
shown_up_to_small h m w k range b =
    lt_of_lt_of_le (shown_up_to_lt h m w k)
    (rw (phases_pow h k) (pow_mono {i = h * k} {j = most_coefficient_bits}
    (omega (arith, coefficient_bits_le h m range, mul-le-mul_left {m = k} {n = m + 1} h (omega arith)))))

label_with_is : (h m : ℕ) (w : List ℕ) (n : ℕ) → label_with h m w n ≡ number_of h m n (shown h m w) (symbol_at w 0)
unfolding label_with low_of
label_with_is h m w n =
    ap (λ (x : ℕ). n * phases h ^ (m + 1) + x) (shown_up_to_is h m w m (symbol_at w 0))
    ∙ sym (number_of_split h m n (shown h m w) (symbol_at w 0))

-- the label of path n, as code makes it
pub label_with_of : (h m : ℕ) (w : List ℕ) (n step low : ℕ) → step ≡ phases h ^ (m + 1) → low ≡ low_of h m w →
    n * step + low ≡ label_with h m w n
unfolding label_with
label_with_of h m w n step low p q = ap₂ (λ (x y : ℕ). n * x + y) p q

module _ (h m : ℕ) (w : List ℕ) (word : Symbols h m w) where
  range : InRange h m
  range = in_shape_range h m word.shape

  -- what is read so far, one base up
  pub shown_scaled : (k n q : ℕ) → k ≤ m → n ≡ shown_up_to h m w k → q ≡ phases h →
      n * q ≤ 2 ^ most_coefficient_bits * phases greatest_h
  shown_scaled k n q l e b =
      let small = shown_up_to_small h m w k range l in
      let base : q ≤ phases greatest_h = omega (arith, b, phases_most h m range) in
      mul-le-mul {n₁ = n} {m₁ = q} {n₂ = 2 ^ most_coefficient_bits} {m₂ = phases greatest_h}
      (omega (arith, e, small)) base

  pub first_lt : symbol_at w 0 < phases h
  first_lt = word.below 0 (pow_pos m)

  label_with_lt : (n : ℕ) → n < paths_in_use m → label_with h m w n < labels h m
  label_with_lt n l =
      subst (λ (x : ℕ). x < labels h m) (sym (label_with_is h m w n))
      (number_of_lt h (shown h m w) m n (symbol_at w 0) l (λ j _ _. shown_lt h m w j) first_lt)

  pub label_with_small : (n : ℕ) → n < paths_in_use m → label_with h m w n < 2 ^ 63
  label_with_small n l = omega (arith, label_with_lt n l, messages_most h m range)

  pub tried_lt : (n : ℕ) → n < paths_in_use m → message_of h m (label_with h m w n) < messages h m
  tried_lt n l = message_of_lt h m _ (label_with_lt n l)

  -- a message's word shows the message's own label
  module _ (g : ℕ) (taken : g < messages h m) (has : word_of h m g ≡ w) where
    abbrev l : ℕ
    l = label_of h m g

    symbol_is : (i : ℕ) → i < carriers m → word_at h m l i ≡ symbol_at w i
    symbol_is i b = sym (word_of_at h m g i b) ∙ ap (λ (v : List ℕ). get_or v i 0) has

    path_used : label_path h m l < paths_in_use m
    path_used = label_path_lt h m l (label_of_lt h m g taken)

    shown_is : (k : ℕ) → 1 ≤ k → k ≤ m → shown h m w k ≡ coefficient h m l k
    unfolding shown
    shown_is k a b =
        sym
        (coefficient_read h m l (label_path_good h m l (range_in_m h m range) (label_of_lt h m g taken)) k a b
        ∙ ap₂ (minus (phases h)) (symbol_is (2 ^ (m - k)) (one_lt m k a b)) (symbol_is 0 (pow_pos m)))

    constant_is : symbol_at w 0 ≡ constant h l
    constant_is = sym (symbol_is 0 (pow_pos m)) ∙ word_at_zero h m l

    shows_label : label_with h m w (label_path h m l) ≡ l
    shows_label =
        label_with_is h m w (label_path h m l)
        ∙ number_of_cong h m (label_path h m l) (shown h m w) (coefficient h m l) (symbol_at w 0)
        (constant h l) shown_is
        constant_is
        ∙ number_of_back h m l

    pub shows_message : message_of h m (label_with h m w (label_path h m l)) ≡ g
    shows_message = ap (message_of h m) shows_label ∙ message_of_label_of h m g

  -- the test that a message has the word
  abbrev has_word : ℕ → Bool
  has_word g = all_below (carriers m) (λ i. eqb (word_at h m (label_of h m g) i) (symbol_at w i))

  has_word_of : (g : ℕ) → word_of h m g ≡ w → has_word g ≡ true
  has_word_of g e =
      all_below_of (carriers m) _
      (λ i b. eq-eqb _ _ (sym (word_of_at h m g i b) ∙ ap (λ (v : List ℕ). get_or v i 0) e))

  has_word_is : (g : ℕ) → has_word g ≡ true → word_of h m g ≡ w
  has_word_is g e =
      ext_get_or 0 (word_of h m g) w (length_word_of h m g ∙ sym word.long)
      (λ i b.
      let b' : i < carriers m = subst (λ (n : ℕ). i < n) (length_word_of h m g) b in
      word_of_at h m g i b' ∙ eqb-true _ _ (all_below_at (carriers m) _ e i b'))

  pub message_with_some : (g : ℕ) → g < messages h m → word_of h m g ≡ w → message_with h m w ≡ some g
  unfolding message_with
  message_with_some g taken e =
      first_below_some (messages h m) has_word g taken (has_word_of g e)
      (λ j b. false_of_not_true (has_word j) (λ t. before j b (word_of_inj m (range_in_m h m range) h j g range.h_least
      (lt_trans b taken) taken (has_word_is j t ∙ sym e))))
    where
      before : (j : ℕ) → j < g → j ≡ g → ⊥
      before j b q = lt_irrefl g (subst (λ (x : ℕ). x < g) q b)

  -- the message that is found is exactly the one whose word the symbols are
  pub message_with_iff : (g : ℕ) → (message_with h m w ≡ some g) ↔ ((g < messages h m) × (word_of h m g ≡ w))
  unfolding message_with
  message_with_iff g = (forth, λ p. message_with_some g p.0 p.1)
    where
      forth : message_with h m w ≡ some g → (g < messages h m) × (word_of h m g ≡ w)
      forth e =
          let f = first_below_at (messages h m) has_word g e in
          (f.0, has_word_is g f.1.0)

  -- none is found exactly where no message has the word; for that each path in use is tried with what is shown
  pub message_with_none_iff : (message_with h m w ≡ none) ↔ ((g : ℕ) → g < messages h m → word_of h m g ≡ w → ⊥)
  unfolding message_with
  message_with_none_iff = (forth, back)
    where
      forth : message_with h m w ≡ none → (g : ℕ) → g < messages h m → word_of h m g ≡ w → ⊥
      forth e g l s = false≢true (sym (first_below_nowhere (messages h m) has_word e g l) ∙ has_word_of g s)

      back : ((g : ℕ) → g < messages h m → word_of h m g ≡ w → ⊥) → message_with h m w ≡ none
      back n =
          first_below_none (messages h m) has_word
          (λ g l. false_of_not_true (has_word g) (λ t. n g l (has_word_is g t)))

  pub message_with_none : ((n : ℕ) → n < paths_in_use m → word_of h m (message_of h m (label_with h m w n)) ≡ w → ⊥) →
      message_with h m w ≡ none
  message_with_none tried =
      message_with_none_iff.1
      (λ g taken e. tried (label_path h m (label_of h m g)) (path_used g taken e)
      (ap (word_of h m) (shows_message g taken e) ∙ e))
