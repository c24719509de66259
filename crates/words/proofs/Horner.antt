-- The number of a label's parts (Labels: number_of). In order: the path number stands apart; equal parts.
-- Assumes nothing.
use Prim.Native.Nat.{ℕ, zero, suc, ◌+◌, ◌*◌, ◌^◌, ◌≤◌, zero-le, suc-le-suc}
use native.Mathlib.Nat.{add_assoc, suc-add, zero-mul, add-mul, mul_assoc, pow-suc, pow-zero, one-mul, le_refl, le_step}
use native.Mathlib.Omega.{arith}
use mathlib.Core.Path.{◌≡◌, ◌∙◌, ap}
use Rattle.rules.specs.Shape.{phases}
use Rattle.words.proofs.Labels.{number_of}

pub number_of_split : (h m n : ℕ) (c : ℕ → ℕ) (c0 : ℕ) →
    number_of h m n c c0 ≡ n * phases h ^ (m + 1) + number_of h m 0 c c0
unfolding number_of
number_of_split h zero n c c0 =
    rw (pow-suc (phases h) 0, pow-zero (phases h), one-mul (phases h), zero-mul (phases h)) (omega arith)
number_of_split h (suc m) n c c0 =
    let q : ℕ = phases h in
    let rest : ℕ = number_of h m 0 c (c (suc m)) in
    let e : q ^ (suc m + 1) ≡ q ^ (m + 1) * q = ap (λ (k : ℕ). q ^ k) (suc-add m 1) ∙ pow-suc q (m + 1) in
    rw (number_of_split h m n c (c (suc m)), add-mul (n * q ^ (m + 1)) rest q, mul_assoc n (q ^ (m + 1)) q, ← e)
    (add_assoc (n * q ^ (suc m + 1)) (rest * q) c0)

pub number_of_cong : (h m n : ℕ) (c d : ℕ → ℕ) (c0 d0 : ℕ) → ((j : ℕ) → 1 ≤ j → j ≤ m → c j ≡ d j) → c0 ≡ d0 →
    number_of h m n c c0 ≡ number_of h m n d d0
unfolding number_of
number_of_cong h zero n c d c0 d0 e e0 = ap (λ (x : ℕ). n * phases h + x) e0
number_of_cong h (suc m) n c d c0 d0 e e0 =
    let top = e (suc m) (suc-le-suc zero-le) (le_refl (suc m)) in
    rw (number_of_cong h m n c d (c (suc m)) (d (suc m)) (λ j a b. e j a (le_step b)) top, e0)
