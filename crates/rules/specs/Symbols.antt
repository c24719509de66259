-- Symbols that could be a word: 01 "What a logger may send". What a call that takes a word asks of it before it looks
-- any further: reader, pair check, hard decoder and the index of theorems say it so.
-- Defines:  Symbols h m w    w is N symbols below 2^h, of a shape in range
-- Laws: proofs/SymbolLaws.antt.  Assumes nothing: this is a definition.
use Rattle.std.specs.Prelude.{ℕ, ◌<◌, ◌≡◌, true, List, length}
use Rattle.rules.specs.Shape.{in_shape, phases, carriers}
use Rattle.rules.specs.Word.{symbol_at}

pub record Symbols (h m : ℕ) (w : List ℕ) : Type 0 where
  pub shape : in_shape h m ≡ true
  pub long : length w ≡ carriers m
  pub below : (i : ℕ) → i < carriers m → symbol_at w i < phases h
