-- `engine::gains::Gains::lead` meets its contract: the labels of the paths before `number` are gone through.
use Rattle.std.proofs.Common.{◌+◌, ◌*◌, ◌^◌, ◌≡◌}
use Rattle.rules.specs.Shape.{phases}
use Rattle.totals.specs.Totals.{total_of}
use Rattle.standing.specs.Lead.{nobody, lead_from}
use Rattle.engine.proofs.gains.Gains.lead.Given as goal

abbrev pub invariant-loop-number : goal.invariant-loop-number
invariant-loop-number l =
    let shape = l.self.shape in
    l.st ≡ lead_from 0 (total_of shape.h shape.m l.self.numbers.now) (l.number * phases shape.h ^ (shape.m + 1)) nobody
