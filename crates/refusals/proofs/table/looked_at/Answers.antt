-- `refusals::table::looked_at` meets its contract: where n reaches N, 2^m fits 64 bits.
-- Assumes nothing.
use Rattle.std.proofs.Common.{rules, ◌≡◌, sym, ◌∙◌}
use borrow.Author.Tests.{leb-true}
use Rattle.refusals.proofs.Tests.{power_reached}
use Rattle.refusals.proofs.table.looked_at.Goals as goal

pub returns-then-reaches : goal.returns-then-reaches
returns-then-reaches c =
    let args = c.args in
    let is : c.from.result ≡ args.m = search rules in
    c.power.ensures
    ∙ power_reached args.n args.m (search rules)
    (rw is at (leb-true _ _ (sym c.reaches.ensures ∙ c.if-reaches.true)))
