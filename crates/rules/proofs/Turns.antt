-- Half a turn, 2^(h-1), modulo the 2^h phases. In order: added to a symbol it changes it; multiples of it depend on the
-- parity of the factor alone.
-- Not here: differences of symbols (Differences).  Assumes nothing.
use Prim.Native.Nat.{ℕ, ◌+◌, ◌-◌, ◌*◌, ◌%◌, ◌≤◌, ◌<◌}
use native.Mathlib.Decide.{dec_lt}
use native.Mathlib.Nat.{mod-eq_of_lt, mod-eq-sub-mod}
use native.Mathlib.Omega.{arith}
use mathlib.Core.Logic.{◌≢◌}
use mathlib.Core.Path.{◌≡◌, sym, ◌∙◌, ap}
use lib.Pow.{pow_pos}
use Rattle.range.proofs.Remainders.{mod_scaled}
use Rattle.rules.specs.Shape.{phases, half_turn}
use Rattle.rules.proofs.Range.{phases_half}

turn_moves : (c x : ℕ) → 0 < c → x < 2 * c → (x + c) % (2 * c) ≢ x
turn_moves c x p b e = elim (dec_lt x c) [ yes l ↦ small l | no l ↦ large l ]
  where
    small : x < c → ⊥
    small l = omega (arith, e, mod-eq_of_lt {n = x + c} {m = 2 * c} (omega arith))

    large : (x < c → ⊥) → ⊥
    large l =
        let s : (x + c) % (2 * c) ≡ (x + c - 2 * c) % (2 * c) = mod-eq-sub-mod (omega arith) in
        omega (arith, e, s, mod-eq_of_lt {n = x + c - 2 * c} {m = 2 * c} (omega arith))

pub half_turn_moves : (h x : ℕ) → 1 ≤ h → x < phases h → (x + half_turn h) % phases h ≢ x
half_turn_moves h x one b =
    rw (phases_half h one) (turn_moves (half_turn h) x (pow_pos (h - 1)) (rw (phases_half h one) at b))

pub half_of_parity : (h x y s : ℕ) → 1 ≤ h → x % 2 ≡ y % 2 →
    (half_turn h * x + s) % phases h ≡ (half_turn h * y + s) % phases h
half_of_parity h x y s one e =
    let turn : phases h ≡ half_turn h * 2 = omega (arith, phases_half h one) in
    rw turn
    (sym (mod_scaled (half_turn h) 2 x s)
    ∙ ap (λ (k : ℕ). (half_turn h * k + s) % (half_turn h * 2)) e
    ∙ mod_scaled (half_turn h) 2 y s)
