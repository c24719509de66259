-- `refusals::table::is_power` meets its contract: 2^e is a shift of 1 where it fits 64 bits, and else more than x.
-- Assumes nothing.
use Prim.Native.Nat.{◌^◌}
use Rattle.std.proofs.Common.{rules, sym, ◌∙◌, arith}
use borrow.Author.Tests.{ne_eqb, le-ltb}
use Rattle.refusals.proofs.Tests.{lt_power}
use Rattle.refusals.proofs.table.is_power.Goals as goal

pub returns-else-e-lt64 : goal.returns-else-e-lt64
returns-else-e-lt64 c =
    let args = c.args in
    let more = lt_power args.x args.e (search rules) c.if-e-lt64.false in
    le-ltb args.e 64 c.if-e-lt64.false ∙ sym (ne_eqb args.x (2 ^ args.e) (λ e. omega arith))
