-- Sums modulo q. In order: equal summands; an equal summand added; a summand and what completes it to a multiple; an
-- equal summand taken off; multiples of c modulo c q.
-- Assumes nothing.
use Prim.Native.Nat.{ℕ, suc, ◌+◌, ◌-◌, ◌*◌, ◌/◌, ◌%◌, ◌<◌}
use native.Mathlib.Nat.{add-mod, add-mul-mod_self_right, div-add-mod', suc-mul, mod-lt}
use native.Mathlib.Omega.{arith}
use mathlib.Core.Path.{◌≡◌, refl, sym, ◌∙◌, ap}

pub mod_sum : (q a b c d : ℕ) → a % q ≡ b % q → c % q ≡ d % q → (a + c) % q ≡ (b + d) % q
mod_sum q a b c d e f = add-mod a c q ∙ rw (e, f) (sym (add-mod b d q))

pub mod_extend : (q x y s : ℕ) → x % q ≡ y % q → (x + s) % q ≡ (y + s) % q
mod_extend q x y s e = mod_sum q x y s s e refl

-- q - s % q completes s to a multiple of q
mod_completed : (q x s : ℕ) → 0 < q → (x + s + (q - s % q)) % q ≡ x % q
mod_completed q x s p =
    let e : x + s + (q - s % q) ≡ x + suc (s / q) * q =
    omega (arith, suc-mul (s / q) q, div-add-mod' s q, mod-lt s p) in
    rw e (add-mul-mod_self_right x (suc (s / q)) q)

pub mod_cancel : (q x y s : ℕ) → 0 < q → (x + s) % q ≡ (y + s) % q → x % q ≡ y % q
mod_cancel q x y s p e =
    sym (mod_completed q x s p) ∙ mod_extend q (x + s) (y + s) (q - s % q) e ∙ mod_completed q y s p

-- a factor of c counts modulo q
pub mod_scaled : (c q x v : ℕ) → (c * (x % q) + v) % (c * q) ≡ (c * x + v) % (c * q)
mod_scaled c q x v =
    let e : c * x ≡ c * (x / q * q + x % q) = ap (λ (k : ℕ). c * k) (sym (div-add-mod' x q)) in
    let f : c * x + v ≡ c * (x % q) + v + x / q * (c * q) = omega arith in
    rw f (sym (add-mul-mod_self_right (c * (x % q) + v) (x / q) (c * q)))
