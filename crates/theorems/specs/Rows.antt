-- 01's table "When the receiver says no", call by call, with what is answered where nothing is refused. Each case is a
-- row: what holds there, and what the call then tells. A row of a later test says that every earlier one was passed, so
-- the rows of a call exclude each other and leave nothing out; the number in a case's name is the refusal's.
-- Defines:  FirstTooGreat h w i   the first symbol of w that is 2^h or more stands at place i
--           FirstOutside m y i    the first of the first N entries of y outside the range of an input stands at i
--           SendRow h m n g o     encode and partner, with n places for output and message number g, tell o
--           PairRow h m a b o     the pair check of a and b tells o: a refusal 3 tells the place, then which word
--           ReadRow h m w o       word reading of w tells o
--           SoftRow h m ys o      soft decoding of ys tells o
--           HardRow h m w o       hard decoding of w tells o
--           TransformRow m a b o  the question about a transform of the areas a and b tells o
-- The words of the rows: rules Shape, Symbols, Word, Autocorrelation (Cancel), Soft, Decoding, Spectrum.
-- Proved in proofs/Rows.antt, PairRows.antt, DecodingRows.antt and TransformRows.antt: a call tells o exactly where a
-- row says so.  Assumes nothing: these are definitions.
use Rattle.std.specs.Prelude.{ℕ, ◌≤◌, ◌<◌, ◌≡◌, Bool, true, false, List, [], ◌∷◌, ◌≢◌, ℤ, length}
use Rattle.range.specs.Signed.{entry}
use Rattle.rules.specs.Shape.{in_m, in_shape, phases, carriers, messages}
use Rattle.rules.specs.Word.{word_of, symbol_at}
use Rattle.rules.specs.Symbols.{Symbols}
use Rattle.rules.specs.Autocorrelation.{Cancel}
use Rattle.rules.specs.Soft.{soft_length}
use Rattle.rules.specs.Spectrum.{accepted}
use Rattle.rules.specs.Outcome.{Outcome, gives, refuses, allowed}
use Rattle.rules.specs.Decoding.{SoftAnswer, HardAnswer, Loud, Near}

pub record FirstTooGreat (h : ℕ) (w : List ℕ) (i : ℕ) : Type 0 where
  pub inside : i < length w
  pub bad : phases h ≤ symbol_at w i
  pub before : (j : ℕ) → j < i → symbol_at w j < phases h

pub record FirstOutside (m : ℕ) (y : List ℤ) (i : ℕ) : Type 0 where
  pub inside : i < carriers m
  pub bad : accepted (entry y i) ≡ false
  pub before : (j : ℕ) → j < i → accepted (entry y j) ≡ true

pub data SendRow (h m n g : ℕ) : Outcome (Unit {0}) → Type 0 where
  send_1 : in_shape h m ≡ false → SendRow h m n g (refuses 1 [])
  send_2 : in_shape h m ≡ true → n ≢ carriers m → SendRow h m n g (refuses 2 [])
  send_4 : in_shape h m ≡ true → n ≡ carriers m → messages h m ≤ g → SendRow h m n g (refuses 4 [])
  send_none : in_shape h m ≡ true → n ≡ carriers m → g < messages h m → SendRow h m n g allowed

pub data PairRow (h m : ℕ) (a b : List ℕ) : Outcome Bool → Type 0 where
  pair_1 : in_shape h m ≡ false → PairRow h m a b (refuses 1 [])
  pair_2 : in_shape h m ≡ true → ((length a ≡ carriers m) × (length b ≡ carriers m) → ⊥) →
      PairRow h m a b (refuses 2 [])
  pair_3_first : (i : ℕ) → in_shape h m ≡ true → length a ≡ carriers m → length b ≡ carriers m → FirstTooGreat h a i →
      PairRow h m a b (refuses 3 (i ∷ 1 ∷ []))
  pair_3_second : (i : ℕ) → Symbols h m a → length b ≡ carriers m → FirstTooGreat h b i →
      PairRow h m a b (refuses 3 (i ∷ 2 ∷ []))
  pair_yes : Symbols h m a → Symbols h m b → Cancel h m (symbol_at a) (symbol_at b) → PairRow h m a b (gives true)
  pair_no : Symbols h m a → Symbols h m b → (Cancel h m (symbol_at a) (symbol_at b) → ⊥) → PairRow h m a b (gives false)

pub data ReadRow (h m : ℕ) (w : List ℕ) : Outcome ℕ → Type 0 where
  read_1 : in_shape h m ≡ false → ReadRow h m w (refuses 1 [])
  read_2 : in_shape h m ≡ true → length w ≢ carriers m → ReadRow h m w (refuses 2 [])
  read_3 : (i : ℕ) → in_shape h m ≡ true → length w ≡ carriers m → FirstTooGreat h w i →
      ReadRow h m w (refuses 3 (i ∷ []))
  read_5 : Symbols h m w → ((g : ℕ) → g < messages h m → word_of h m g ≢ w) → ReadRow h m w (refuses 5 [])
  read_gives : (g : ℕ) → in_shape h m ≡ true → g < messages h m → word_of h m g ≡ w → ReadRow h m w (gives g)

pub data SoftRow (h m : ℕ) (ys : List ℤ) : Outcome SoftAnswer → Type 0 where
  soft_1 : in_shape h m ≡ false → SoftRow h m ys (refuses 1 [])
  soft_6 : in_shape h m ≡ true → h ≡ 3 → SoftRow h m ys (refuses 6 [])
  soft_2 : in_shape h m ≡ true → h ≢ 3 → length ys ≢ soft_length h m → SoftRow h m ys (refuses 2 [])
  soft_gives : (a : SoftAnswer) → in_shape h m ≡ true → h ≢ 3 → length ys ≡ soft_length h m →
      Loud h m ys a → SoftRow h m ys (gives a)

pub data HardRow (h m : ℕ) (w : List ℕ) : Outcome HardAnswer → Type 0 where
  hard_1 : in_shape h m ≡ false → HardRow h m w (refuses 1 [])
  hard_6 : in_shape h m ≡ true → h ≡ 3 → HardRow h m w (refuses 6 [])
  hard_2 : in_shape h m ≡ true → h ≢ 3 → length w ≢ carriers m → HardRow h m w (refuses 2 [])
  hard_3 : (i : ℕ) → in_shape h m ≡ true → h ≢ 3 → length w ≡ carriers m → FirstTooGreat h w i →
      HardRow h m w (refuses 3 (i ∷ []))
  hard_gives : (a : HardAnswer) → h ≢ 3 → Symbols h m w → Near h m w a → HardRow h m w (gives a)

pub data TransformRow (m : ℕ) (a b : List ℤ) : Outcome (Unit {0}) → Type 0 where
  transform_1 : in_m m ≡ false → TransformRow m a b (refuses 1 [])
  transform_2 : in_m m ≡ true → ((carriers m ≤ length a) × (carriers m ≤ length b) → ⊥) →
      TransformRow m a b (refuses 2 [])
  transform_7 : (i : ℕ) → in_m m ≡ true → carriers m ≤ length a → carriers m ≤ length b → FirstOutside m a i →
      TransformRow m a b (refuses 7 (i ∷ []))
  transform_none : in_m m ≡ true → carriers m ≤ length a → carriers m ≤ length b →
      ((i : ℕ) → i < carriers m → accepted (entry a i) ≡ true) → TransformRow m a b allowed
