-- `transform::run` meets its contract: where the question about it answers a refusal nothing is touched, and else the
-- stages run, between areas that the answer says are fit for it.
-- Assumes nothing.
use mathlib.Core.Path.{◌≡◌, sym, ◌∙◌}
use mathlib.Core.Bool.{true}
use Rattle.rules.specs.Shape.{in_m}
use Rattle.rules.proofs.RefusalLaws.{transform_taken}
use Rattle.shape.proofs.Powers.{power_carriers_of_in_m}
use Rattle.transform.proofs.AreasAfter.{ran_refused, ran_allowed}
use Rattle.transform.proofs.run.Goals.{In-Ok}
use Rattle.transform.proofs.run.Goals as goal

pub returns-in_default : goal.returns-in_default
returns-in_default c = ran_refused _ _ _ _ _ (sym c.in_default.ensures)

-- where nothing is refused m is in range
ranged : (c : In-Ok) → in_m c.args.m ≡ true
ranged c = (transform_taken c.args.m c.args.first.now c.args.second.now (sym c.in-Ok.ensures)).range

pub rounds-requires-clause-n_value : goal.rounds-requires-clause-n_value
rounds-requires-clause-n_value c =
    c.power-n.ensures ∙ power_carriers_of_in_m _ (ranged (goal.at.rounds-requires-clause-n_value c).In-Ok)

pub returns : goal.returns
returns c =
    let here = (goal.at.returns c).In-Ok in
    ran_allowed _ _ _ _ _ _ (sym c.in-Ok.ensures) (c.power-n.ensures ∙ power_carriers_of_in_m _ (ranged here))
    c.rounds.ensures.first_after c.rounds.ensures.second_after
