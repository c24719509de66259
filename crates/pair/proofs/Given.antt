-- What the pair check gives: two words in range are left to the counts.
-- Assumes nothing.
use Prim.Native.Nat.{ℕ}
use mathlib.Core.Path.{◌≡◌}
use mathlib.Core.List.{List}
use Rattle.rules.specs.Pair.{golay_pair}
use Rattle.rules.specs.Word.{symbol_at}
use Rattle.rules.specs.Symbols.{Symbols}
use Rattle.rules.specs.Outcome.{gives}
use Rattle.rules.specs.Refusal.{pair_outcome}
use Rattle.rules.proofs.RefusalLaws.{pair_allowed}

module _ (h m : ℕ) (a b : List ℕ) where
  pub pair_given : Symbols h m a → Symbols h m b →
      gives (golay_pair h m (symbol_at a) (symbol_at b)) ≡ pair_outcome h m a b
  unfolding pair_outcome
  pair_given p q = rw (pair_allowed h m a b p q)
