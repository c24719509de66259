-- `refusals::send` meets its contract: test after test, as the rules nest them.  Assumes nothing.
use Rattle.std.proofs.Common.{rules}
use Rattle.rules.specs.Refusal.{send_refusal}
use Rattle.kinds.proofs.RefusalLaws.{handed_on}
use Rattle.refusals.proofs.Rungs.{stops, passes}
use Rattle.refusals.proofs.send.Goals as goal

pub returns-in_err-shape : goal.returns-in_err-shape
unfolding send_refusal
returns-in_err-shape c =
    handed_on (λ u. u) _ c.in_err-shape.field-0.0 (search rules)
    (stops _ _ _ _ c.in_err-shape.ensures)

pub returns-in_err-length : goal.returns-in_err-length
unfolding send_refusal
returns-in_err-length c =
    handed_on (λ u. u) _ c.in_err-length.field-0.0 (search rules)
    (passes _ _ _ _ c.in_ok-shape.ensures (stops _ _ _ _ c.in_err-length.ensures))

pub returns : goal.returns
unfolding send_refusal
returns c = passes _ _ _ _ c.in_ok-shape.ensures (passes _ _ _ _ c.in_ok-length.ensures c.message.ensures)
