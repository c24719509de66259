-- `transform::stage` meets its contract: each arm runs the stage of the stride that it names, the last of the greatest.
-- Assumes nothing.
use native.Mathlib.Omega.{arith}
use mathlib.Core.Path.{◌≡◌}
use Rattle.transform.proofs.Halves.{stride_last}
use Rattle.transform.proofs.stage.Goals as goal

pub pass-requires-in_default-clause-readable : goal.pass-requires-in_default-clause-readable
pass-requires-in_default-clause-readable c =
    let e : c.args.s ≡ 16 = stride_last _ c.requires.stride (omega arith) (omega arith) (omega arith) (omega arith) in
    rw e at c.requires.readable

pub returns-in_default : goal.returns-in_default
returns-in_default c =
    let e : c.args.s ≡ 16 = stride_last _ c.requires.stride (omega arith) (omega arith) (omega arith) (omega arith) in
    rw e c.pass-in_default.ensures
