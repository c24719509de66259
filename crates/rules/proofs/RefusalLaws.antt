-- Where a call refuses nothing: rules' Refusal, test by test. Of each call first that nothing is refused where no test
-- holds, then what holds where nothing is refused.
-- In order: encode and partner; one word; the pair check; soft values; hard decoding; the transform. For the decoders
-- also that there are at most four phases.
-- Assumes nothing.
use Prim.Native.Nat.{ℕ, ◌≤◌, ◌<◌}
use native.Mathlib.Omega.{arith}
use mathlib.Core.Path.{◌≡◌, sym, ◌∙◌, ap}
use mathlib.Core.Bool.{Bool, true, false, not, ◌||◌}
use mathlib.Core.List.{List, [], ◌∷◌}
use lib.IntN.{ℤ}
use lib.ListN.{length}
use borrow.Author.Tests.{eqb-true, eqb-false, eq-eqb, ne_eqb, leb-false, lt-leb, ltb-false, le-ltb}
use borrow.Author.Tests.{not-false}
use Rattle.range.specs.Signed.{entry}
use Rattle.range.proofs.Tests.{or_false, first_below_none, first_below_nowhere}
use Rattle.rules.specs.Shape.{in_m, in_shape, carriers, messages}
use Rattle.rules.specs.Symbols.{Symbols}
use Rattle.rules.specs.Soft.{soft_length}
use Rattle.rules.specs.Spectrum.{accepted}
use Rattle.rules.specs.Outcome.{allowed}
use Rattle.rules.specs.Table.{bad_shape, bad_length, bad_symbol, bad_message, octary, short_area}
use Rattle.rules.specs.Table.{bad_value}
use Rattle.rules.specs.Refusal.{send_refusal, pair_refusal, refuse_word, word_refusal, soft_refusal, hard_refusal}
use Rattle.rules.specs.Refusal.{transform_refusal}
use Rattle.rules.proofs.Range.{in_shape_range}
use Rattle.rules.proofs.OutcomeLaws.{refuse_gives, refuse_at_gives, refuse_passed, refuse_at_passed}
use Rattle.rules.proofs.SymbolLaws.{symbols_of_none, symbols_none}

pub record SendTaken (h m n g : ℕ) : Type 0 where
  pub shape : in_shape h m ≡ true
  pub long : n ≡ carriers m
  pub message : g < messages h m

pub send_allowed : (h m n g : ℕ) → SendTaken h m n g → send_refusal h m n g ≡ allowed
unfolding send_refusal
send_allowed h m n g t =
    refuse_passed 1 _ (ap not t.shape) ∙ refuse_passed 2 _ (ap not (eq-eqb n (carriers m) t.long))
    ∙ refuse_passed 4 allowed (lt-leb (messages h m) g t.message)

pub send_taken : (h m n g : ℕ) → send_refusal h m n g ≡ allowed → SendTaken h m n g
unfolding send_refusal
send_taken h m n g e =
    let shape = refuse_gives 1 (bad_shape h m) _ tt e in
    let long = refuse_gives 2 (bad_length n (carriers m)) _ tt shape.1 in
    let message = refuse_gives 4 (bad_message h m g) allowed tt long.1 in
    record {
      shape = not-false _ shape.0;
      long = eqb-true n (carriers m) (not-false _ long.0);
      message = leb-false (messages h m) g message.0;
    }

-- one word, in a shape in range
refuse_word_allowed : (h m : ℕ) (w : List ℕ) → Symbols h m w → refuse_word h m w allowed ≡ allowed
refuse_word_allowed h m w s =
    refuse_passed 2 _ (ap not (eq-eqb (length w) (carriers m) s.long))
    ∙ refuse_at_passed 3 [] allowed (sym (symbols_none h m w s))

refuse_word_taken : (h m : ℕ) (w : List ℕ) → in_shape h m ≡ true → refuse_word h m w allowed ≡ allowed → Symbols h m w
refuse_word_taken h m w shape e =
    let long = refuse_gives 2 (bad_length (length w) (carriers m)) _ tt e in
    let symbols = refuse_at_gives 3 (bad_symbol h w) [] allowed tt long.1 in
    symbols_of_none h m w shape (eqb-true (length w) (carriers m) (not-false _ long.0)) (sym symbols.0)

pub word_allowed : (h m : ℕ) (w : List ℕ) → Symbols h m w → word_refusal h m w ≡ allowed
unfolding word_refusal
word_allowed h m w s =
    refuse_passed 1 _ (ap not s.shape) ∙ refuse_word_allowed h m w s

pub word_taken : (h m : ℕ) (w : List ℕ) → word_refusal h m w ≡ allowed → Symbols h m w
unfolding word_refusal
word_taken h m w e =
    let shape = refuse_gives 1 (bad_shape h m) (refuse_word h m w allowed) tt e in
    refuse_word_taken h m w (not-false _ shape.0) shape.1

pub pair_allowed : (h m : ℕ) (a b : List ℕ) → Symbols h m a → Symbols h m b → pair_refusal h m a b ≡ allowed
unfolding pair_refusal
pair_allowed h m a b p q =
    let long : (bad_length (length a) (carriers m) || bad_length (length b) (carriers m)) ≡ false =
    rw (eq-eqb (length a) (carriers m) p.long, eq-eqb (length b) (carriers m) q.long) in
    refuse_passed 1 _ (ap not p.shape) ∙ refuse_passed 2 _ long
    ∙ refuse_at_passed 3 (1 ∷ []) _ (sym (symbols_none h m a p))
    ∙ refuse_at_passed 3 (2 ∷ []) allowed (sym (symbols_none h m b q))

pub pair_taken : (h m : ℕ) (a b : List ℕ) → pair_refusal h m a b ≡ allowed → Symbols h m a × Symbols h m b
unfolding pair_refusal
pair_taken h m a b e =
    let short : List ℕ → Bool = λ w. bad_length (length w) (carriers m) in
    let shape = refuse_gives 1 (bad_shape h m) _ tt e in
    let both = refuse_gives 2 (short a || short b) _ tt shape.1 in
    let long = or_false (short a) (short b) both.0 in
    let first = refuse_at_gives 3 (bad_symbol h a) (1 ∷ []) _ tt both.1 in
    let second = refuse_at_gives 3 (bad_symbol h b) (2 ∷ []) allowed tt first.1 in
    let s = not-false _ shape.0 in (
      symbols_of_none h m a s (eqb-true (length a) (carriers m) (not-false _ long.0)) (sym first.0),
      symbols_of_none h m b s (eqb-true (length b) (carriers m) (not-false _ long.1)) (sym second.0),
    )

-- of the phases of a shape in range, all but eight are four at most
pub few_phases : (h m : ℕ) → in_shape h m ≡ true → (h ≡ 3 → ⊥) → h ≤ 2
few_phases h m e n = omega (arith, (in_shape_range h m e).h_most)

pub record SoftTaken (h m : ℕ) (ys : List ℤ) : Type 0 where
  pub shape : in_shape h m ≡ true
  pub few : h ≤ 2
  pub long : length ys ≡ soft_length h m

pub soft_allowed : (h m : ℕ) (ys : List ℤ) → SoftTaken h m ys → soft_refusal h m ys ≡ allowed
unfolding soft_refusal
soft_allowed h m ys t =
    refuse_passed 1 _ (ap not t.shape) ∙ refuse_passed 6 _ (ne_eqb h 3 (λ e. omega (arith, t.few)))
    ∙ refuse_passed 2 allowed (ap not (eq-eqb (length ys) (soft_length h m) t.long))

pub soft_taken : (h m : ℕ) (ys : List ℤ) → soft_refusal h m ys ≡ allowed → SoftTaken h m ys
unfolding soft_refusal
soft_taken h m ys e =
    let shape = refuse_gives 1 (bad_shape h m) _ tt e in
    let few = refuse_gives 6 (octary h) _ tt shape.1 in
    let long = refuse_gives 2 (bad_length (length ys) (soft_length h m)) allowed tt few.1 in
    let s = not-false _ shape.0 in
    record {
      shape = s;
      few = few_phases h m s (eqb-false h 3 few.0);
      long = eqb-true (length ys) (soft_length h m) (not-false _ long.0);
    }

pub record HardTaken (h m : ℕ) (w : List ℕ) : Type 0 where
  pub few : h ≤ 2
  pub symbols : Symbols h m w

pub hard_allowed : (h m : ℕ) (w : List ℕ) → HardTaken h m w → hard_refusal h m w ≡ allowed
unfolding hard_refusal
hard_allowed h m w t =
    refuse_passed 1 _ (ap not t.symbols.shape) ∙ refuse_passed 6 _ (ne_eqb h 3 (λ e. omega (arith, t.few)))
    ∙ refuse_word_allowed h m w t.symbols

pub hard_taken : (h m : ℕ) (w : List ℕ) → hard_refusal h m w ≡ allowed → HardTaken h m w
unfolding hard_refusal
hard_taken h m w e =
    let shape = refuse_gives 1 (bad_shape h m) _ tt e in
    let few = refuse_gives 6 (octary h) (refuse_word h m w allowed) tt shape.1 in
    let s = not-false _ shape.0 in
    record { few = few_phases h m s (eqb-false h 3 few.0); symbols = refuse_word_taken h m w s few.1 }

pub record TransformTaken (m : ℕ) (a b : List ℤ) : Type 0 where
  pub range : in_m m ≡ true
  pub first : carriers m ≤ length a
  pub second : carriers m ≤ length b
  pub values : (i : ℕ) → i < carriers m → accepted (entry a i) ≡ true

pub transform_allowed : (m : ℕ) (a b : List ℤ) → TransformTaken m a b → transform_refusal m a (length b) ≡ allowed
unfolding transform_refusal bad_value
transform_allowed m a b t =
    let long : (short_area (length a) m || short_area (length b) m) ≡ false =
    rw (le-ltb (length a) (carriers m) t.first, le-ltb (length b) (carriers m) t.second) in
    refuse_passed 1 _ (ap not t.range) ∙ refuse_passed 2 _ long
    ∙ refuse_at_passed 7 [] allowed (first_below_none (carriers m) _ (λ i l. ap not (t.values i l)))

pub transform_taken : (m : ℕ) (a b : List ℤ) → transform_refusal m a (length b) ≡ allowed → TransformTaken m a b
unfolding transform_refusal bad_value
transform_taken m a b e =
    let range = refuse_gives 1 (not (in_m m)) _ tt e in
    let sizes = refuse_gives 2 (short_area (length a) m || short_area (length b) m) _ tt range.1 in
    let short = or_false (short_area (length a) m) (short_area (length b) m) sizes.0 in
    let values = refuse_at_gives 7 (bad_value m a) [] allowed tt sizes.1 in
    record {
      range = not-false (in_m m) range.0;
      first = ltb-false (length a) (carriers m) short.0;
      second = ltb-false (length b) (carriers m) short.1;
      values = λ i l. not-false (accepted (entry a i)) (first_below_nowhere (carriers m) _ values.0 i l);
    }
