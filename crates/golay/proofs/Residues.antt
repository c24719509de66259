-- Half a turn in remainders and differences, over plain numbers: q is a whole turn, s half of it. In order: two half
-- turns are none; half a turn changes sides in a test; a difference by two sums; half a turn at one of two places; the
-- same multiples of it on both sides of a sum.
-- Not here: that half a turn moves every symbol (rules' Turns), sums modulo q (range's Remainders), differences (rules'
-- Differences).  Assumes nothing.
use Prim.Native.Nat.{ℕ, zero, suc, ◌+◌, ◌*◌, ◌%◌, ◌<◌}
use native.Mathlib.Nat.{mod-eq_of_lt, mod-add-mod, add-mod_right}
use native.Mathlib.Omega.{arith}
use mathlib.Core.Path.{◌≡◌, sym, ◌∙◌, ap}
use lib.Dec.{eqb}
use Rattle.range.proofs.Remainders.{mod_cancel, mod_extend}
use Rattle.range.proofs.Tests.{eqb_of_iff}
use Rattle.rules.specs.Pair.{minus}
use Rattle.rules.proofs.Differences.{minus_add, minus_of_sum}

module _ (q s : ℕ) (half : q ≡ 2 * s) where
  pub half_twice : (x : ℕ) → (x + s + s) % q ≡ x % q
  half_twice x =
      let e : x + s + s ≡ x + q = omega arith in
      rw e (add-mod_right x q)

  -- half a turn on one side of a test is half a turn on the other
  pub half_across : (d k : ℕ) → d < q → eqb ((d + s) % q) (k % q) ≡ eqb d ((k + s) % q)
  half_across d k b = eqb_of_iff _ _ _ _ to from
    where
      to : (d + s) % q ≡ k % q → d ≡ (k + s) % q
      to e =
          sym (mod-eq_of_lt b) ∙ sym (half_twice d) ∙ sym (mod-add-mod (d + s) q s) ∙ ap (λ (x : ℕ). (x + s) % q) e
          ∙ mod-add-mod k q s

      from : d ≡ (k + s) % q → (d + s) % q ≡ k % q
      from e = ap (λ (x : ℕ). (x + s) % q) e ∙ mod-add-mod (k + s) q s ∙ half_twice k

-- b - d is a - c + s where b + c is a + d + s
pub minus_of_sums : (q s a b c d : ℕ) → 0 < q → (a + d + s) % q ≡ (b + c) % q →
    minus q (b % q) (d % q) ≡ (minus q (a % q) (c % q) + s) % q
minus_of_sums q s a b c d p e =
    let x : ℕ = minus q (a % q) (c % q) in
    let f : x + s + d + c ≡ x + c + (d + s) = omega arith in
    let g : a + (d + s) ≡ a + d + s = omega arith in
    minus_of_sum q (x + s) b d p
    (mod_cancel q (x + s + d) b c p
    (ap (λ (n : ℕ). n % q) f ∙ mod_extend q (x + c) a (d + s) (minus_add q a c p) ∙ ap (λ (n : ℕ). n % q) g ∙ e))

-- half a turn at one of two places moves their difference by half a turn
pub minus_half_once : (q s a c x y : ℕ) → 0 < q → q ≡ 2 * s → x + y ≡ 1 →
    minus q ((a + s * x) % q) ((c + s * y) % q) ≡ (minus q (a % q) (c % q) + s) % q
minus_half_once q s a c x y p half one = minus_of_sums q s a (a + s * x) c (c + s * y) p (at x y one)
  where
    at : (x y : ℕ) → x + y ≡ 1 → (a + (c + s * y) + s) % q ≡ (a + s * x + c) % q
    at zero y e =
        let f : y ≡ 1 = omega arith in
        let g : a + (c + s * 1) + s ≡ a + s * 0 + c + s + s = omega arith in
        rw (f, g) (half_twice q s half (a + s * 0 + c))
    at (suc x) y e =
        let f : y ≡ 0 = omega arith in
        let g : x ≡ 0 = omega arith in
        let k : a + (c + s * 0) + s ≡ a + s * 1 + c = omega arith in
        rw (f, g, k)

-- the same changes on both sides of a sum
pub sums_moved : (q s a b c d w x y z : ℕ) → (a + d + s) % q ≡ (b + c) % q → w + z ≡ x + y →
    (a + s * w + (d + s * z) + s) % q ≡ (b + s * x + (c + s * y)) % q
sums_moved q s a b c d w x y z e f =
    let g : s * (w + z) ≡ s * (x + y) = ap (λ (n : ℕ). s * n) f in
    let left : a + s * w + (d + s * z) + s ≡ a + d + s + s * (w + z) = omega arith in
    let right : b + s * x + (c + s * y) ≡ b + c + s * (w + z) = omega arith in
    rw (left, right) (mod_extend q (a + d + s) (b + c) (s * (w + z)) e)
