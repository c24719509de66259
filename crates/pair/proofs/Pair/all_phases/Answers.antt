-- `Pair::all_phases` meets its contract: every phase is tested.
-- Assumes nothing.
use Prim.Native.Nat.{ℕ, zero, ◌+◌}
use native.Mathlib.Omega.{arith}
use mathlib.Core.Path.{◌≡◌, sym, ◌∙◌, ap}
use mathlib.Core.Bool.{Bool}
use borrow.Author.Tests.{tests}
use lib.Dec.{eqb}
use Rattle.std.proofs.Common.{rules}
use Rattle.std.proofs.lemmas.Iterator.{YieldsList-from_range}
use Rattle.std.proofs.lemmas.Iterator.Search.{all_from_yields_List}
use Rattle.rules.specs.Shape.{carriers}
use Rattle.rules.specs.Pair.{pair_count}
use Rattle.rules.specs.Word.{symbol_at}
use Rattle.pair.proofs.Counts.{list_all_range}
use Rattle.pair.proofs.Pair.all_phases.Goals as goal

pub returns : goal.returns
returns c =
    let pair = c.args.self.now in
    let q = c.phases.result in
    let half = c.half_turn-half.result in
    let count : ℕ → ℕ =
    pair_count pair.shape.h (carriers pair.shape.m) (symbol_at pair.first.now) (symbol_at pair.second.now) c.args.u in
    let agrees : ℕ → Bool = λ k. eqb (count k) (count (k + half)) in
    let counted : (i : ℕ) → zero + i ≡ i = λ i. omega arith in
    rw (sym c.phases.ensures, sym c.half_turn-half.ensures)
    (all_from_yields_List agrees _ _ _ c.all.ensures.ran (YieldsList-from_range 0 q q (cc) (omega arith))
    (λ x b f k. search (rules, tests))
    ∙ list_all_range 0 q agrees agrees (λ i. ap agrees (counted i)))
