-- `refusals::table::reaches` meets its contract: 2^e is a shift of 1 where it fits 64 bits, and else more than x.
-- Assumes nothing.
use Rattle.std.proofs.Common.{rules, sym, ◌∙◌}
use borrow.Author.Tests.{lt-leb, le-ltb}
use Rattle.refusals.proofs.Tests.{lt_power}
use Rattle.refusals.proofs.table.reaches.Goals as goal

pub returns-else-e-lt64 : goal.returns-else-e-lt64
returns-else-e-lt64 c =
    le-ltb c.args.e 64 c.if-e-lt64.false
    ∙ sym (lt-leb _ _ (lt_power c.args.x c.args.e (search rules) c.if-e-lt64.false))
