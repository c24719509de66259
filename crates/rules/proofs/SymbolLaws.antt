-- Laws of symbols: rules' Symbols, Table and Word. In order: the symbols of a word and of its partner lie below 2^h;
-- where no bad symbol is found every symbol is below q, and back; symbols in range, from what the tests of the table
-- found, and back.
-- Not here: what the symbols of a word are (crate words).  Assumes nothing.
use Prim.Native.Nat.{ℕ, ◌<◌}
use native.Mathlib.Nat.{mod-lt}
use mathlib.Core.Path.{◌≡◌, sym, subst}
use mathlib.Core.Bool.{true}
use mathlib.Core.List.{List}
use mathlib.Core.Option.{none}
use lib.Dec.{leb}
use lib.ListN.{length}
use lib.Pow.{pow_pos}
use borrow.Author.Tests.{leb-false, lt-leb}
use Rattle.range.proofs.Tests.{first_below_none, first_below_nowhere}
use Rattle.rules.specs.Shape.{in_shape, phases, carriers}
use Rattle.rules.specs.Word.{form_at, word_at, partner_at, symbol_at}
use Rattle.rules.specs.Symbols.{Symbols}
use Rattle.rules.specs.Table.{first_bad, bad_symbol}

pub word_at_lt : (h m l i : ℕ) → word_at h m l i < phases h
unfolding word_at
word_at_lt h m l i = mod-lt (form_at h m l i) (pow_pos h)

pub partner_at_lt : (h m l i : ℕ) → partner_at h m l i < phases h
unfolding partner_at
partner_at_lt h m l i = mod-lt _ (pow_pos h)

first_bad_none : (q : ℕ) (w : List ℕ) → none ≡ first_bad q w → (i : ℕ) → i < length w → symbol_at w i < q
first_bad_none q w e i h =
    leb-false _ _ (first_below_nowhere (length w) (λ k. leb q (symbol_at w k)) (sym e) i h)

first_bad_of_below : (q : ℕ) (w : List ℕ) → ((i : ℕ) → i < length w → symbol_at w i < q) → none ≡ first_bad q w
first_bad_of_below q w below =
    sym (first_below_none (length w) _ (λ i h. lt-leb q (symbol_at w i) (below i h)))

module _ (h m : ℕ) (w : List ℕ) where
  pub symbols_of_none : in_shape h m ≡ true → length w ≡ carriers m → none ≡ bad_symbol h w → Symbols h m w
  unfolding bad_symbol
  symbols_of_none shape long good = record {
    shape = shape;
    long = long;
    below = λ i l. first_bad_none (phases h) w good i (subst (λ (n : ℕ). i < n) (sym long) l);
  }

  pub symbols_none : Symbols h m w → none ≡ bad_symbol h w
  unfolding bad_symbol
  symbols_none s = first_bad_of_below (phases h) w (λ i l. s.below i (subst (λ (n : ℕ). i < n) s.long l))
