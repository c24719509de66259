-- What a symbol hears, by half turns: of the soft values of a place, symbol s hears the one whose phase is s modulo
-- half a turn, negated from half a turn on. In order: for two phases; for four; for both.
-- Not here: sums over places (Sizes, Units).  Assumes nothing.
use Prim.Native.Nat.{ℕ, zero, suc, ◌+◌, ◌*◌, ◌%◌, ◌≤◌, ◌<◌}
use native.Mathlib.Omega.{arith}
use mathlib.Core.Path.{◌≡◌, refl, ap}
use mathlib.Core.List.{List}
use lib.Dec.{leb}
use lib.IntN.{ℤ, neg_ℤ}
use Rattle.range.specs.Signed.{negated_if, entry}
use Rattle.rules.specs.Shape.{phases, half_turn}
use Rattle.rules.specs.Soft.{heard}

heard_two_lem : (ys : List ℤ) (i s : ℕ) → s < 2 → heard 1 ys i s ≡ negated_if (leb 1 s) (entry ys (1 * i + s % 1))
unfolding heard
heard_two_lem ys i zero l = ap (entry ys) (omega arith)
heard_two_lem ys i (suc zero) l = ap (λ (k : ℕ). neg_ℤ (entry ys k)) (omega arith)
heard_two_lem ys i (suc (suc s)) l = absurd (omega arith)

heard_four_lem : (ys : List ℤ) (i s : ℕ) → s < 4 → heard 2 ys i s ≡ negated_if (leb 2 s) (entry ys (2 * i + s % 2))
unfolding heard
heard_four_lem ys i zero l = ap (entry ys) (omega arith)
heard_four_lem ys i (suc zero) l = refl
heard_four_lem ys i (suc (suc zero)) l = ap (λ (k : ℕ). neg_ℤ (entry ys k)) (omega arith)
heard_four_lem ys i (suc (suc (suc zero))) l = refl
heard_four_lem ys i (suc (suc (suc (suc s)))) l = absurd (omega arith)

pub heard_half : (h : ℕ) (ys : List ℤ) (i s : ℕ) → 1 ≤ h → h ≤ 2 → s < phases h →
    heard h ys i s ≡ negated_if (leb (half_turn h) s) (entry ys (half_turn h * i + s % half_turn h))
heard_half zero ys i s a b l = absurd (omega (arith, a))
heard_half (suc zero) ys i s a b l = heard_two_lem ys i s l
heard_half (suc (suc zero)) ys i s a b l = heard_four_lem ys i s l
heard_half (suc (suc (suc h))) ys i s a b l = absurd (omega (arith, b))
