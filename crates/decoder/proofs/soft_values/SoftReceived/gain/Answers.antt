-- `decoder::soft_values::Soft::gain` meets its contract: a symbol below half a turn gains the value that it adds,
-- raised, and any other the value half a turn before it, lowered. A value that is read is a sixteen-bit number.
-- Assumes nothing.
use Prim.Native.Nat.{ℕ, ◌+◌, ◌-◌, ◌*◌, ◌≤◌, ◌<◌}
use native.Mathlib.Omega.{arith}
use mathlib.Core.Path.{◌≡◌, ◌∙◌, ap}
use mathlib.Core.List.{List}
use lib.IntN.{ℤ}
use lib.Signed.{mag}
use mir.Syntax.{w16}
use mir.ValLaws.{to_z-of_z}
use borrow.Author.Tests.{lt-ltb, le-ltb}
use Rattle.range.specs.Signed.{entry}
use Rattle.rules.specs.Shape.{half_turn}
use Rattle.totals.specs.Gains.{raise_by, raised, soft_gain}
use Rattle.decoder.proofs.soft_values.SoftReceived.gain.Goals as goal

-- what the symbols of the first and of the second half turn gain
module _ (h : ℕ) (ys : List ℤ) (half i s : ℕ) (e : half ≡ half_turn h) where
  first : s < half → raised (entry ys (half * i + s)) ≡ soft_gain h ys i s
  unfolding soft_gain
  first l = rw (← e, lt-ltb s half l)

  second : half ≤ s → 2 * raise_by - raised (entry ys (half * i + (s - half))) ≡ soft_gain h ys i s
  unfolding soft_gain
  second l = rw (← e, le-ltb s half l)

pub returns-then-symbol-half : goal.returns-then-symbol-half
returns-then-symbol-half c =
    let self = c.args.self.now in
    let half = c.half_turn-half.result in
    let y = entry self.values.now (half * c.args.place + c.args.symbol) in
    let fits : mag y < raise_by = omega arith in
    record {
      told = c.raised.ensures ∙ ap raised (to_z-of_z w16 y (record { sfits = fits }))
          ∙ first self.shape.h self.values.now half c.args.place c.args.symbol c.half_turn-half.ensures
          c.if-symbol-half.true;
      seen = λ l. rw c.half_turn-half.ensures at fits;
    }

pub returns-else-symbol-half : goal.returns-else-symbol-half
returns-else-symbol-half c =
    let self = c.args.self.now in
    let half = c.half_turn-half.result in
    let y = entry self.values.now (half * c.args.place + (c.args.symbol - half)) in
    let fits : mag y < raise_by = omega arith in
    record {
      told = c.lowered.ensures ∙ ap (λ (z : ℤ). 2 * raise_by - raised z) (to_z-of_z w16 y (record { sfits = fits }))
          ∙ second self.shape.h self.values.now half c.args.place c.args.symbol c.half_turn-half.ensures
          c.if-symbol-half.false;
      seen = λ l. absurd (omega (arith, l, c.if-symbol-half.false, c.half_turn-half.ensures));
    }
