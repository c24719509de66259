-- `Pair::both` meets its contract: the two counts are at most the two lengths, so that their sum fits.
-- Assumes nothing.
use Prim.Native.Nat.{ℕ, ◌+◌}
use native.Mathlib.Omega.{arith}
use mathlib.Core.Path.{sym, ap₂}
use lib.ListN.{length}
use Rattle.rules.specs.Pair.{pair_count}
use Rattle.rules.specs.Word.{symbol_at}
use Rattle.pair.proofs.Counts.{phase_count_le}
use Rattle.pair.proofs.Pair.both.Goals as goal

pub overflow_add-result : goal.overflow_add-result
overflow_add-result c =
    let pair = c.args.self.now in
    let a = pair.first.now in
    let b = pair.second.now in
    omega (
      arith,
      phase_count_le pair.shape.h (symbol_at a) c.args.u c.args.k (length a),
      phase_count_le pair.shape.h (symbol_at b) c.args.u c.args.k (length b),
    )

pub returns : goal.returns
unfolding pair_count
returns c =
    let pair = c.args.self.now in
    ap₂ (λ (x y : ℕ). x + y) (rw (sym pair.first_symbols.long) c.count.ensures)
    (rw (sym pair.second_symbols.long) c.count-2.ensures)
