-- `engine::gains::Gains::lead` meets its contract: the labels of one path after the other are all labels.
-- Assumes nothing.
use Prim.Native.Nat.{ℕ, ◌+◌, ◌*◌, ◌^◌}
use native.Mathlib.Nat.{zero-add}
use native.Mathlib.Omega.{arith}
use mathlib.Core.Path.{◌≡◌, refl, sym, ◌∙◌, ap, subst}
use Rattle.rules.specs.Shape.{phases}
use Rattle.rules.specs.Label.{labels}
use Rattle.totals.specs.Totals.{total_of}
use Rattle.standing.specs.Lead.{nobody, lead, lead_from}
use Rattle.standing.proofs.Lead.{lead_from_none, lead_from_stretch, lead_from_end}
use Rattle.engine.proofs.PathLaws.{labels_paths}
use Rattle.engine.proofs.gains.Gains.lead.Goals as goal

pub loop-number-init : goal.loop-number-init
loop-number-init c = lead_from_none 0 _ _ nobody (omega arith)

pub loop-number-preserved : goal.loop-number-preserved
loop-number-preserved c =
    let at = c.loop-number in
    let shape = c.args.self.now.shape in
    let size : ℕ = phases shape.h ^ (shape.m + 1) in
    let totals : ℕ → ℕ = total_of shape.h shape.m c.args.self.now.numbers.now in
    let next : at.number * size + size ≡ (at.number + 1) * size = omega arith in
    subst (λ (k : ℕ). c.path-st.result ≡ lead_from 0 totals k nobody) next
    (lead_from_stretch 0 totals (at.number * size) size (at.number * size) _ nobody at.st c.path-st.result at.invariant
    (sym (zero-add (at.number * size))) (λ j _. refl) c.path-st.ensures)

pub returns : goal.returns
unfolding lead
returns c =
    let at = c.loop-number in
    let shape = c.args.self.now.shape in
    let size : ℕ = phases shape.h ^ (shape.m + 1) in
    let done : at.number ≡ c.paths_in_use-number-end.result =
    omega (arith, at.auto.number-end, c.loop-number-test.false) in
    lead_from_end 0 _ (at.number * size) (labels shape.h shape.m) nobody at.st at.invariant
    (ap (λ (k : ℕ). k * size) (done ∙ c.paths_in_use-number-end.ensures) ∙ labels_paths shape.h shape.m)
