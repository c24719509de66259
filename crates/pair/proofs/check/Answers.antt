-- `pair::check` meets its contract: it answers what the question about it refuses, and else the counts answer.
-- Assumes nothing.
use Rattle.std.proofs.Common.{rules}
use mathlib.Core.Path.{sym, ◌∙◌, ap}
use Rattle.rules.specs.Outcome.{gives}
use Rattle.rules.specs.Refusal.{pair_outcome}
use Rattle.rules.proofs.OutcomeLaws.{and_then_refused}
use Rattle.rules.proofs.RefusalLaws.{pair_taken}
use Rattle.kinds.proofs.RefusalLaws.{handed_on}
use Rattle.pair.proofs.Given.{pair_given}
use Rattle.pair.proofs.check.Goals as goal

pub returns-in_err-pair : goal.returns-in_err-pair
unfolding pair_outcome
returns-in_err-pair c =
    handed_on (λ b. b) _ c.in_err-pair.field-0.0 (search rules) (and_then_refused _ c.in_err-pair.ensures)

pub invariant_of-shape : goal.invariant_of-shape
invariant_of-shape c = record { in_range = (pair_taken c.args.h c.args.m _ _ (sym c.in_ok-pair.ensures)).0.shape }

pub invariant_of-pair : goal.invariant_of-pair
invariant_of-pair c =
    let words = pair_taken _ _ _ _ (sym c.in_ok-pair.ensures) in
    record { first_symbols = words.0; second_symbols = words.1 }

pub returns : goal.returns
returns c =
    let words = pair_taken _ _ _ _ (sym c.in_ok-pair.ensures) in
    ap gives c.all_shifts.ensures ∙ pair_given _ _ _ _ words.0 words.1
