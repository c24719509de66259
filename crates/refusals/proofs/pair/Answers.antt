-- `refusals::pair` meets its contract: test after test, as the rules nest them.  Assumes nothing.
use Rattle.std.proofs.Common.{rules}
use Rattle.rules.specs.Refusal.{pair_refusal}
use Rattle.kinds.proofs.RefusalLaws.{handed_on}
use Rattle.refusals.proofs.Rungs.{stops, passes, stops_at, passes_at}
use Rattle.refusals.proofs.pair.Goals as goal

pub returns-in_err-shape : goal.returns-in_err-shape
unfolding pair_refusal
returns-in_err-shape c =
    handed_on (λ u. u) _ c.in_err-shape.field-0.0 (search rules)
    (stops _ _ _ _ c.in_err-shape.ensures)

pub returns-in_err-lengths : goal.returns-in_err-lengths
unfolding pair_refusal
returns-in_err-lengths c =
    handed_on (λ u. u) _ c.in_err-lengths.field-0.0 (search rules)
    (passes _ _ _ _ c.in_ok-shape.ensures (stops _ _ _ _ c.in_err-lengths.ensures))

pub returns-in_err-symbols_in : goal.returns-in_err-symbols_in
unfolding pair_refusal
returns-in_err-symbols_in c =
    handed_on (λ u. u) _ c.in_err-symbols_in.field-0.0 (search rules)
    (passes _ _ _ _ c.in_ok-shape.ensures (passes _ _ _ _ c.in_ok-lengths.ensures
    (stops_at _ _ _ _ _ c.in_err-symbols_in.ensures)))

pub returns : goal.returns
unfolding pair_refusal
returns c = passes _ _ _ _ c.in_ok-shape.ensures (passes _ _ _ _ c.in_ok-lengths.ensures
    (passes_at _ _ _ _ _ c.in_ok-symbols_in.ensures c.symbols_in-2.ensures))
