-- The difference of two numbers modulo q, and its weight.
-- Defines:  gap q x y       x - y modulo q, for any two numbers
--           Positive q ω    no difference modulo q but 0 weighs nothing
-- In order: the gap of two sums; of two sums that share a summand; of two multiples of half a turn; the weights of
-- gaps.
-- Not here: differences (rules' Differences), weights of words (signals' Weights), sums modulo q (range's Remainders).
-- Assumes nothing.
use Prim.Native.Nat.{ℕ, suc, ◌+◌, ◌-◌, ◌*◌, ◌%◌, ◌≤◌, ◌<◌}
use native.Mathlib.Nat.{add-zero, mul-suc, mod-lt, mod-eq_of_lt}
use native.Mathlib.Omega.{arith}
use mathlib.Core.Path.{◌≡◌, sym, ◌∙◌, ap, ap₂}
use mathlib.Core.Logic.{◌≢◌}
use lib.Pow.{pow_pos}
use Rattle.range.proofs.Remainders.{mod_extend, mod_sum}
use Rattle.rules.specs.Shape.{phases, half_turn}
use Rattle.rules.specs.Pair.{minus}
use Rattle.rules.proofs.Range.{phases_half}
use Rattle.rules.proofs.Turns.{half_of_parity}
use Rattle.rules.proofs.Differences.{minus_lt, minus_self, eq_of_minus, minus_add, minus_of_sum}
use Rattle.signals.proofs.Weights.{Weight, weight_back}

abbrev pub gap : ℕ → ℕ → ℕ → ℕ
gap q x y = minus q (x % q) (y % q)

module _ (q : ℕ) (pos : 0 < q) where
  gap_sum : (x y u v : ℕ) → gap q (x + u) (y + v) ≡ (gap q x y + gap q u v) % q
  gap_sum x y u v =
      let e : gap q x y + gap q u v + (y + v) ≡ gap q x y + y + (gap q u v + v) = omega arith in
      minus_of_sum q (gap q x y + gap q u v) (x + u) (y + v) pos
      (ap (λ (n : ℕ). n % q) e
      ∙ mod_sum q (gap q x y + y) x (gap q u v + v) u (minus_add q x y pos) (minus_add q u v pos))

  pub gap_shift : (x y z : ℕ) → gap q (x + z) (y + z) ≡ gap q x y
  gap_shift x y z =
      gap_sum x y z z
      ∙ rw (minus_self q (z % q) (mod-lt z pos), add-zero) (mod-eq_of_lt (minus_lt q (x % q) (y % q) pos))

-- multiples of half a turn by factors of different parity lie half a turn apart
pub gap_half : (h x y : ℕ) → 1 ≤ h → x % 2 ≢ y % 2 → gap (phases h) (half_turn h * x) (half_turn h * y) ≡ half_turn h
gap_half h x y b n =
    let e : half_turn h + half_turn h * y ≡ half_turn h * suc y + 0 = omega (arith, mul-suc (half_turn h) y) in
    minus_of_sum (phases h) (half_turn h) (half_turn h * x) (half_turn h * y) (pow_pos h)
    (ap (λ (n : ℕ). n % phases h) e ∙ half_of_parity h (suc y) x 0 b (omega arith) ∙ rw add-zero)
    ∙ mod-eq_of_lt (omega (arith, phases_half h b, pow_pos (h - 1)))

abbrev pub Positive : ℕ → (ℕ → ℕ) → Type 0
Positive q ω = (d : ℕ) → 0 < d → d < q → 1 ≤ ω d

module _ (q : ℕ) (pos : 0 < q) (ω : ℕ → ℕ) (weight : Weight q ω) where
  weight_gap_back : (x y : ℕ) → ω (gap q x y) ≡ ω (gap q y x)
  weight_gap_back x y = weight_back q ω weight (x % q) (y % q) (mod-lt x pos) (mod-lt y pos)

  pub weight_gap_sum : (x y u v : ℕ) → ω (gap q (x + u) (y + v)) ≤ ω (gap q x y) + ω (gap q u v)
  weight_gap_sum x y u v =
      rw (gap_sum q pos x y u v)
      (rw (mod-eq_of_lt (minus_lt q (x % q) (y % q) pos), mod-eq_of_lt (minus_lt q (u % q) (v % q) pos))
      at (weight.sum (gap q x y) (gap q u v)))

  -- where x + u is s and y + v is t, the gap of u and v weighs no more than those of x and y and of s and t together
  pub weight_step : (x y s t u v : ℕ) → (x + u) % q ≡ s % q → (y + v) % q ≡ t % q →
      ω (gap q u v) ≤ ω (gap q x y) + ω (gap q s t)
  weight_step x y s t u v e f =
      let a : u + (x + y) ≡ x + u + y = omega arith in
      let b : v + (x + y) ≡ y + v + x = omega arith in
      omega (
        arith,
        ap ω (gap_shift q pos u v (x + y)),
        ap₂ (λ (i j : ℕ). ω (gap q i j)) a b,
        ap₂ (λ (i j : ℕ). ω (minus q i j)) (mod_extend q (x + u) s y e) (mod_extend q (y + v) t x f),
        weight_gap_sum s t y x,
        weight_gap_back x y,
      )

  -- the same with a summand beside x and y, and one beside s and t
  pub weight_step_beside : (x y s t w z u v : ℕ) → x + w + u ≡ s + z → y + w + v ≡ t + z →
      ω (gap q u v) ≤ ω (gap q x y) + ω (gap q s t)
  weight_step_beside x y s t w z u v e f =
      omega (
        arith,
        weight_step (x + w) (y + w) (s + z) (t + z) u v (ap (λ (n : ℕ). n % q) e) (ap (λ (n : ℕ). n % q) f),
        ap ω (gap_shift q pos x y w),
        ap ω (gap_shift q pos s t z),
      )

  pub weight_gap_one : Positive q ω → (u v : ℕ) → u < q → v < q → u ≢ v → 1 ≤ ω (gap q u v)
  weight_gap_one one u v a b n =
      let e : gap q u v ≡ minus q u v = rw (mod-eq_of_lt a, mod-eq_of_lt b) in
      let z : gap q u v ≢ 0 = λ f. n (eq_of_minus q u v a b (sym e ∙ f)) in
      one (gap q u v) (omega arith) (minus_lt q (u % q) (v % q) pos)
