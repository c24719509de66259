-- Golay pairs, from the definitions to the calls. In order: the word and the partner of a message, as functions and as
-- lists; the pair check on what encode and partner write, on a word and itself, on words that cancel and on words that
-- do not; the envelope powers of both.
-- Not here: that word and partner are a pair, and that pairs are words that cancel (crate golay); every answer of the
-- pair check (PairRows).  Assumes nothing.
use Prim.Native.Nat.{ℕ, ◌*◌, ◌≤◌, ◌<◌}
use native.Mathlib.Omega.{arith}
use mathlib.Core.Path.{◌≡◌, sym, ◌∙◌, ap, ap₂}
use mathlib.Core.Bool.{true, false, true≢false}
use Rattle.std.specs.Prelude.{Ok}
use mathlib.Core.List.{List}
use mathlib.Core.Logic.{◌↔◌}
use lib.Dec.{eqb}
use lib.IntN.{pos, ◌+ℤ◌}
use Rattle.range.specs.Below.{one_if}
use Rattle.rules.specs.Shape.{in_shape, half_turn, carriers, messages}
use Rattle.rules.specs.Label.{label_of}
use Rattle.rules.specs.Word.{word_of, partner_of, symbol_at}
use Rattle.rules.specs.Symbols.{Symbols}
use Rattle.rules.specs.Pair.{GolayPair, golay_pair}
use Rattle.rules.specs.Autocorrelation.{Cancel}
use Rattle.rules.specs.Envelope.{envelope_power}
use Rattle.rules.specs.Outcome.{gives}
use Rattle.rules.specs.Refusal.{pair_outcome}
use Rattle.rules.proofs.Range.{in_shape_range, range_in_m}
use Rattle.rules.proofs.OutcomeLaws.{gives_inj}
use Rattle.rules.proofs.SymbolLaws.{word_at_lt, partner_at_lt}
use Rattle.rules.proofs.Messages.{label_of_lt}
use Rattle.words.proofs.Forms.{word_of_at, partner_of_at}
use Rattle.golay.proofs.Autocorrelations.{golay_pair_iff_cancel}
use Rattle.golay.proofs.LabelPairs.{golay_pair_word_partner}
use Rattle.golay.proofs.Envelopes.{envelope_power_together}
use Rattle.pair.specs.Paired.{Paired}
use Rattle.pair.specs.Paired.{paired_told}
use Rattle.pair.proofs.PairTest.{golay_pair_iff, golay_pair_cong, golay_pair_self}
use Rattle.pair.proofs.Given.{pair_given}
use Rattle.pair.proofs.Unique.{paired_told_inj}
use Rattle.theorems.specs.Names.{word, partner, Encodes, Partners}
use Rattle.theorems.proofs.Slices.{word_of_symbols, partner_of_symbols, done_shape, done_message, done_word}
use Rattle.theorems.proofs.PairRows.{tested_iff, tested_false}

module _ (h m g : ℕ) (shape : in_shape h m ≡ true) (taken : g < messages h m) where
  pub word_partner : GolayPair h m (word h m g) (partner h m g)
  word_partner =
      let r = in_shape_range h m shape in
      golay_pair_word_partner h m (label_of h m g) r.h_least (range_in_m h m r) (label_of_lt h m g taken)

  pub partner_cancels : Cancel h m (word h m g) (partner h m g)
  partner_cancels =
      (golay_pair_iff_cancel h m (word h m g) (partner h m g) (in_shape_range h m shape).h_least).0 word_partner

  -- the two lists
  lists_pair : golay_pair h m (symbol_at (word_of h m g)) (symbol_at (partner_of h m g)) ≡ true
  lists_pair =
      (golay_pair_iff h m _ _).1
      (golay_pair_cong h m (word h m g) (partner h m g) _ _ (λ i l. sym (word_of_at h m g i l))
      (λ i l. sym (partner_of_at h m g i l)) word_partner)

  lists_yes : gives true ≡ pair_outcome h m (word_of h m g) (partner_of h m g)
  lists_yes =
      ap gives (sym lists_pair)
      ∙ pair_given h m (word_of h m g) (partner_of h m g) (word_of_symbols h m g shape) (partner_of_symbols h m g shape)

pub written_yes : (h m g : ℕ) (d e w v : List ℕ) (t : Paired) → Encodes h m g d w → Partners h m g e v →
    paired_told t ≡ pair_outcome h m w v → t ≡ Ok true
written_yes h m g d e w v t p q told =
    paired_told_inj t (Ok true) (told ∙ ap₂ (pair_outcome h m) (done_word p) (done_word q)
    ∙ sym (lists_yes h m g (done_shape p) (done_message p)))

pub self_not_pair : (h m : ℕ) (a : ℕ → ℕ) → 1 ≤ h → 1 ≤ m → GolayPair h m a a → ⊥
self_not_pair h m a p q pair = true≢false (sym ((golay_pair_iff h m a a).1 pair) ∙ golay_pair_self h m a p q)

module _ (h m : ℕ) (w v : List ℕ) (r : Paired) (a : Symbols h m w) (b : Symbols h m v)
    (told : paired_told r ≡ pair_outcome h m w v) where
  given : paired_told r ≡ gives (golay_pair h m (symbol_at w) (symbol_at v))
  given = told ∙ sym (pair_given h m w v a b)

  pub yes_iff_pair : (r ≡ Ok true) ↔ GolayPair h m (symbol_at w) (symbol_at v)
  yes_iff_pair =
      let test = golay_pair_iff h m (symbol_at w) (symbol_at v) in (
        λ e. test.0 (gives_inj (sym given ∙ ap paired_told e)),
        λ p. paired_told_inj r (Ok true) (given ∙ ap gives (test.1 p)),
      )

  pub yes_iff_cancel : (r ≡ Ok true) ↔ Cancel h m (symbol_at w) (symbol_at v)
  yes_iff_cancel = (
    λ e. (tested_iff h m w v a.shape).0 (gives_inj (sym given ∙ ap paired_told e)),
    λ c. paired_told_inj r (Ok true) (given ∙ ap gives ((tested_iff h m w v a.shape).1 c)),
  )

  pub no_iff_not_cancel : (r ≡ Ok false) ↔ (Cancel h m (symbol_at w) (symbol_at v) → ⊥)
  no_iff_not_cancel = (
    λ e. (tested_false h m w v a.shape).0 (gives_inj (sym given ∙ ap paired_told e)),
    λ n. paired_told_inj r (Ok false) (given ∙ ap gives ((tested_false h m w v a.shape).1 n)),
  )

pub self_no : (h m : ℕ) (w : List ℕ) (r : Paired) → Symbols h m w → paired_told r ≡ pair_outcome h m w w → r ≡ Ok false
self_no h m w r a told =
    let t = in_shape_range h m a.shape in
    paired_told_inj r (Ok false) (given h m w w r a a told
    ∙ ap gives (golay_pair_self h m (symbol_at w) t.h_least (omega (arith, t.m_least))))

pub envelope_together : (h m g r s t : ℕ) → in_shape h m ≡ true → g < messages h m → h ≤ r → t < half_turn r →
    envelope_power h (carriers m) (word h m g) r s t +ℤ envelope_power h (carriers m) (partner h m g) r s t
    ≡ pos (2 * carriers m * one_if (eqb t 0))
envelope_together h m g r s t shape taken l b =
    envelope_power_together h m (word h m g) (partner h m g) r s t (in_shape_range h m shape).h_least l
    (λ i _. word_at_lt h m (label_of h m g) i) (λ i _. partner_at_lt h m (label_of h m g) i)
    (word_partner h m g shape taken) b
