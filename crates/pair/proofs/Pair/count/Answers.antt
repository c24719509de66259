-- `Pair::count` meets its contract: each symbol from u on is tested with the one u places before it.
-- Assumes nothing.
use Prim.Native.Nat.{◌+◌, ◌-◌, ◌%◌, ◌^◌}
use native.Mathlib.Omega.{arith}
use mathlib.Core.Path.{refl, ◌∙◌}
use borrow.Author.Tests.{tests}
use lib.ListN.{length}
use Rattle.std.proofs.Common.{rules}
use Rattle.std.proofs.lemmas.Iterator.{YieldsList-from_range, YieldsList-from_map}
use Rattle.std.proofs.lemmas.Iterator.Adapters.{fits_from_length, at_most_from_yields_List, total_from_yields_List}
use Rattle.std.proofs.lemmas.List.FromFn.{length-range_with_len}
use Rattle.range.specs.Below.{one_if}
use Rattle.pair.proofs.Counts.{more_by, phase_count_is}
use Rattle.pair.proofs.Pair.count.Goals as goal

pub sum-requires-clause-fits : goal.sum-requires-clause-fits
sum-requires-clause-fits c =
    let n = length c.args.word.now in
    let u = c.args.u in
    fits_from_length _ _ (2 ^ 64 - 1) _
    (at_most_from_yields_List (YieldsList-from_range u n (n - u) (cc) refl)
    (omega (arith, length-range_with_len u (n - u))))
    c.map.ensures.closure (omega arith) (λ x r q k. search (rules, tests))

pub returns : goal.returns
returns c =
    let h = c.args.self.now.shape.h in
    let w = c.args.word.now in
    let u = c.args.u in
    let q = c.phases-q.result in
    total_from_yields_List ◌+◌ 0 _ c.sum.ensures.ran
    (YieldsList-from_map _ (λ j. one_if (more_by q w u (c.args.k % q) j))
    (YieldsList-from_range u (length w) (length w - u) (cc) refl)
    c.map.ensures.closure (λ x r f k. search (rules, tests)))
    ∙ rw c.phases-q.ensures (phase_count_is h u c.args.k w)
