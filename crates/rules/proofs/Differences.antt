-- Differences modulo q: rules' minus. In order: they lie below q; by the order of the two numbers; of equal numbers
-- none; a difference and what was taken away; of no other numbers none; by way of a third number; the way back; of the
-- remainders of any two numbers: a difference and what was taken away, and a difference from such a sum.
-- Not here: sums modulo q (range's Remainders), half a turn (Turns).  Assumes nothing.
use Prim.Native.Nat.{ℕ, ◌+◌, ◌-◌, ◌%◌, ◌≤◌, ◌<◌}
use native.Mathlib.Nat.{zero-add, mod-lt, mod-eq_of_lt, mod-add-mod, add-mod, add-mod-mod, add-mod_right}
use native.Mathlib.Decide.{dec_lt}
use native.Mathlib.Omega.{arith}
use mathlib.Core.Path.{◌≡◌, sym, ◌∙◌, ap}
use Rattle.range.proofs.Remainders.{mod_cancel}
use Rattle.rules.specs.Pair.{minus}

pub minus_lt : (q a b : ℕ) → 0 < q → minus q a b < q
unfolding minus
minus_lt q a b p = mod-lt (a + (q - b)) p

minus_of_le : (q a b : ℕ) → b ≤ a → a < q → minus q a b ≡ a - b
unfolding minus
minus_of_le q a b l p =
    let e : a + (q - b) ≡ a - b + q = omega arith in
    rw e (add-mod_right (a - b) q ∙ mod-eq_of_lt (omega arith))

minus_of_lt : (q a b : ℕ) → a < b → b ≤ q → minus q a b ≡ a + (q - b)
unfolding minus
minus_of_lt q a b l p = mod-eq_of_lt (omega arith)

pub minus_self : (q a : ℕ) → a < q → minus q a a ≡ 0
minus_self q a p = omega (arith, minus_of_le q a a (omega arith) p)

pub minus_add_of_lt : (q a b : ℕ) → a < q → b < q → (minus q a b + b) % q ≡ a
unfolding minus
minus_add_of_lt q a b p r =
    let e : a + (q - b) + b ≡ a + q = omega arith in
    mod-add-mod (a + (q - b)) q b ∙ rw (e, add-mod_right a q) (mod-eq_of_lt p)

pub eq_of_minus : (q a b : ℕ) → a < q → b < q → minus q a b ≡ 0 → a ≡ b
eq_of_minus q a b p r e = sym (minus_add_of_lt q a b p r) ∙ rw (e, zero-add b) (mod-eq_of_lt r)

-- by way of b
pub minus_through : (q a b c : ℕ) → b < q → minus q a c ≡ (minus q a b + minus q b c) % q
unfolding minus
minus_through q a b c p =
    let e : a + (q - b) + (b + (q - c)) ≡ a + (q - c) + q = omega arith in
    sym (add-mod_right (a + (q - c)) q) ∙ ap (λ (n : ℕ). n % q) (sym e) ∙ add-mod (a + (q - b)) (b + (q - c)) q

pub minus_back : (q a b : ℕ) → a < q → b < q → minus q b a ≡ (q - minus q a b) % q
unfolding minus
minus_back q a b p r = at (dec_lt a b)
  where
    at : Dec (a < b) → minus q b a ≡ (q - minus q a b) % q
    at (yes l) =
        let e : q - minus q a b ≡ b - a = omega (arith, minus_of_lt q a b l (omega arith)) in
        minus_of_le q b a (omega arith) r ∙ rw e (sym (mod-eq_of_lt (omega arith)))
    at (no n) =
        let e : q - minus q a b ≡ b + (q - a) = omega (arith, minus_of_le q a b (omega arith) p) in
        rw (e, minus)

pub minus_add : (q a b : ℕ) → 0 < q → (minus q (a % q) (b % q) + b) % q ≡ a % q
minus_add q a b p =
    sym (add-mod-mod (minus q (a % q) (b % q)) b q)
    ∙ minus_add_of_lt q (a % q) (b % q) (mod-lt a p) (mod-lt b p)

-- what gives a with b is a - b
pub minus_of_sum : (q x a b : ℕ) → 0 < q → (x + b) % q ≡ a % q → minus q (a % q) (b % q) ≡ x % q
minus_of_sum q x a b p e =
    sym (mod-eq_of_lt (minus_lt q (a % q) (b % q) p))
    ∙ mod_cancel q (minus q (a % q) (b % q)) x b p (minus_add q a b p ∙ sym e)
