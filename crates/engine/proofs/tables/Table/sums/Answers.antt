-- `engine::tables::Table::sums` meets its contract: run 2 t, and the odd run c symbols further on.
-- Assumes nothing.
use Rattle.std.proofs.Common.{sym, ◌∙◌, arith}
use Rattle.totals.specs.Climb.{pair_at}
use Rattle.engine.proofs.RunLaws.{run_half}
use Rattle.engine.proofs.tables.Table.sums.Goals as goal

pub invariant_of-result : goal.invariant_of-result
invariant_of-result c =
    let runs = c.args.self.now.runs in
    record {
      as_long = c.run.ensures.0 ∙ sym c.run-2.ensures.0;
      small = λ i. omega (
        arith,
        run_half runs _ _ c.run.ensures.0 c.run.ensures.1 i,
        run_half runs _ _ c.run-2.ensures.0 c.run-2.ensures.1 i,
      );
    }

pub returns : goal.returns
unfolding pair_at
returns c = (c.run.ensures.0, λ i l. rw (c.run.ensures.1 i l, c.run-2.ensures.1 i l, c.wrap-further.ensures))
