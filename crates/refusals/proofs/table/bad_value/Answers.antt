-- `refusals::table::bad_value` meets its contract: the library's search is the rules', and looking at more entries than
-- there are finds nothing more.
-- Assumes nothing.
use native.Mathlib.Omega.{arith}
use Rattle.std.proofs.Common.{ℕ, pos, not, ◌∙◌, ap}
use Rattle.range.specs.Below.{first_below}
use Rattle.range.specs.Signed.{entry}
use Rattle.rules.specs.Spectrum.{accepted}
use Rattle.refusals.specs.Searched.{search_told}
use Rattle.refusals.proofs.Searches.{position_front}
use Rattle.refusals.proofs.Tests.{bad_value_looked_at}
use Rattle.refusals.proofs.table.bad_value.Goals as goal

pub returns : goal.returns
returns c =
    let y = c.args.area.now in
    ap search_told c.first_outside.ensures
    ∙ position_front (λ v. not (accepted v)) y (pos 0) c.looked_at.result (omega (arith, c.looked_at.ensures))
    ∙ ap (λ (n : ℕ). first_below n (λ i. not (accepted (entry y i)))) c.looked_at.ensures
    ∙ bad_value_looked_at c.args.m y
