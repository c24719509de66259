-- `shape::minus` meets its contract: below q and b, a is added to what b leaves of q; else a whole q drops out.
-- Assumes nothing.
use Prim.Native.Nat.{ℕ, ◌+◌, ◌-◌, ◌%◌, ◌≤◌, ◌<◌, min}
use native.Mathlib.Nat.{mod-eq_of_lt, mod-zero, add-mod_right}
use native.Mathlib.Omega.{arith}
use mathlib.Core.Path.{◌≡◌, sym, ◌∙◌}
use Rattle.std.proofs.Common.{rules}
use Rattle.rules.specs.Pair.{minus}
use Rattle.shape.proofs.minus.Goals as goal

-- what a leaves where y of b is taken away, by whether a is less
module _ (q a b x y : ℕ) (is-a : x ≡ a) (is-least : y ≡ min q b) where
  minus_below : x < y → x + (q - y) ≡ minus q a b
  unfolding minus
  minus_below l =
      let e : a + (q - b) ≡ x + (q - y) = omega arith in
      rw e (sym (mod-eq_of_lt (omega arith)))

  minus_above : y ≤ x → (x - y) % q ≡ minus q a b
  unfolding minus
  minus_above l =
      let e : a + (q - b) ≡ x - y + q = omega arith in
      rw e (sym (add-mod_right (x - y) q))

  minus_none : q ≡ 0 → x ≡ minus q a b
  unfolding minus
  minus_none z =
      let e : a + (q - b) ≡ x = omega arith in
      rw (e, z) (sym (mod-zero x))

pub returns-then-x-y : goal.returns-then-x-y
returns-then-x-y c = minus_below _ _ _ _ _ (search rules) (search rules) c.if-x-y.true

pub returns-then-d-q : goal.returns-then-d-q
returns-then-d-q c =
    sym (mod-eq_of_lt c.if-d-q.true) ∙ minus_above _ _ _ _ _ (search rules) (search rules) c.if-x-y.false

pub returns-then-q-eq0 : goal.returns-then-q-eq0
returns-then-q-eq0 c =
    minus_none c.args.q c.args.a c.args.b c.from-x.result c.min-y.result (search rules) (search rules) (search rules)

pub returns-else-q-eq0 : goal.returns-else-q-eq0
returns-else-q-eq0 c = minus_above _ _ _ _ _ (search rules) (search rules) c.if-x-y.false
