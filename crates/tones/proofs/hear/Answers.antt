-- `tones::hear` meets its contract: turn after turn the generator goes one number on and a value is written.
-- Assumes nothing.
use native.Mathlib.Omega.{arith}
use mathlib.Core.Path.{◌≡◌, refl, ◌∙◌, ap}
use lib.ListN.{length}
use mir.Syntax.{w16}
use mir.ValLaws.{to_z-of_z}
use Rattle.range.proofs.Fills.{filling_none, filling_turn, fills_all}
use Rattle.tones.specs.Tones.{seed_at}
use Rattle.tones.proofs.ToneLaws.{seed_at_next, heard_at_is}
use Rattle.tones.proofs.hear.Goals as goal

pub loop-e-init : goal.loop-e-init
unfolding seed_at
loop-e-init c = (filling_none _ _ 0 _ (omega arith), refl)

-- the number that the value is drawn from is the generator's next
pub loop-e-preserved : goal.loop-e-preserved
loop-e-preserved c =
    let inv = c.loop-e.invariant in
    let drawn = seed_at_next _ _ _ _ inv.1 c.next-seed.ensures in
    let value = heard_at_is _ _ _ _ _ _ _ _ _ _ drawn c.tone.ensures.value c.moved.ensures c.lowered.ensures in (
      filling_turn inv.0 (omega arith) (omega arith)
          (to_z-of_z w16 c.lowered.result (record { sfits = c.lowered.type_inv }) ∙ value),
      drawn,
    )

pub returns : goal.returns
returns c =
    let inv = c.loop-e.invariant in
    let n = length c.args.y.now in
    let e : c.loop-e.e ≡ n = omega arith in
    record {
      seed = inv.1 ∙ ap (seed_at c.args.channel.seed) e;
      values = fills_all _ _ _ n _ inv.0.fills refl e;
    }
