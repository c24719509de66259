-- `engine::search` meets its contract: gains that are not accepted are not searched.
-- Assumes nothing.
use mathlib.Core.Path.{◌≡◌, sym, ◌∙◌}
use mathlib.Core.Bool.{true}
use Rattle.engine.specs.Search.{accepts}
use Rattle.engine.proofs.Accepting.{Accepted, accepts_given, accepted_small, searched_not, searched_is}
use Rattle.engine.proofs.search.Goals.{Else-not-takes}
use Rattle.engine.proofs.search.Goals as goal

taken : (c : Else-not-takes) → accepts c.args.h c.args.m c.args.gains.now ≡ true
taken c = sym c.takes.ensures ∙ c.if-not-takes.false

given : (c : Else-not-takes) → Accepted c.args.h c.args.m c.args.gains.now
given c = accepts_given _ _ _ (taken c)

pub returns-then-not-takes : goal.returns-then-not-takes
returns-then-not-takes c = searched_not _ _ _ (sym c.takes.ensures ∙ c.if-not-takes.true)

pub invariant_of-gains : goal.invariant_of-gains
invariant_of-gains c = record { in_range = (given (goal.at.invariant_of-gains c).Else-not-takes).shape }

pub invariant_of-gains-2 : goal.invariant_of-gains-2
invariant_of-gains-2 c =
    let p = given (goal.at.invariant_of-gains-2 c).Else-not-takes in
    record { few = p.few; long = p.long; small = accepted_small _ _ _ p }

pub returns : goal.returns
returns c = c.lead.ensures ∙ sym (searched_is _ _ _ (taken (goal.at.returns c).Else-not-takes))
