-- `Pair::all_shifts` meets its contract: every shift is tested.
-- Assumes nothing.
use Prim.Native.Nat.{ℕ, suc, ◌+◌, ◌-◌}
use native.Mathlib.Omega.{arith}
use mathlib.Core.Path.{◌≡◌, refl, ◌∙◌, ap}
use mathlib.Core.Bool.{Bool}
use borrow.Author.Tests.{tests}
use Rattle.std.proofs.Common.{rules}
use Rattle.std.proofs.lemmas.Iterator.{YieldsList-from_range}
use Rattle.std.proofs.lemmas.Iterator.Search.{all_from_yields_List}
use Rattle.rules.specs.Shape.{carriers}
use Rattle.rules.specs.Pair.{golay_pair, phases_agree}
use Rattle.rules.specs.Word.{symbol_at}
use Rattle.pair.proofs.Counts.{list_all_range}
use Rattle.pair.proofs.Pair.all_shifts.Goals as goal

pub returns : goal.returns
unfolding golay_pair
returns c =
    let pair = c.args.self.now in
    let n = carriers pair.shape.m in
    let agrees : ℕ → Bool =
    phases_agree pair.shape.h n (symbol_at pair.first.now) (symbol_at pair.second.now) in
    let counted : (i : ℕ) → 1 + i ≡ suc i = λ i. omega arith in
    all_from_yields_List agrees _ _ _ c.all.ensures.ran (YieldsList-from_range 1 n (n - 1) (cc) refl)
    (λ x b f k. search (rules, tests))
    ∙ list_all_range 1 (n - 1) agrees (λ u. agrees (suc u)) (λ i. ap agrees (counted i))
