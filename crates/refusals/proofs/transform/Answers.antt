-- `refusals::transform` meets its contract: test after test, as the rules nest them.  Assumes nothing.
use Rattle.std.proofs.Common.{rules}
use Rattle.rules.specs.Refusal.{transform_refusal}
use Rattle.kinds.proofs.RefusalLaws.{handed_on}
use Rattle.refusals.proofs.Rungs.{stops, passes}
use Rattle.refusals.proofs.transform.Goals as goal

pub returns-in_err-m_alone : goal.returns-in_err-m_alone
unfolding transform_refusal
returns-in_err-m_alone c =
    handed_on (λ u. u) _ c.in_err-m_alone.field-0.0 (search rules)
    (stops _ _ _ _ c.in_err-m_alone.ensures)

pub returns-in_err-areas : goal.returns-in_err-areas
unfolding transform_refusal
returns-in_err-areas c =
    handed_on (λ u. u) _ c.in_err-areas.field-0.0 (search rules)
    (passes _ _ _ _ c.in_ok-m_alone.ensures (stops _ _ _ _ c.in_err-areas.ensures))

pub returns : goal.returns
unfolding transform_refusal
returns c = passes _ _ _ _ c.in_ok-m_alone.ensures (passes _ _ _ _ c.in_ok-areas.ensures c.values.ensures)
