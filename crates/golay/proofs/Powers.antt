-- Laws of phase_power: the powers of x modulo x^(2^(h-1)) + 1, told by their coordinates.
-- In order: times x carries a coordinate on, and the last one back negated; half a turn more negates, and a whole turn
-- more changes nothing; x^0, x^e below half a turn, and x^e below a whole turn, by tests for a phase; a sum of powers,
-- by how often two phases are taken.
-- Not here: autocorrelations (Autocorrelations), envelope powers (Envelopes).  Assumes nothing.
use Prim.Native.Nat.{ℕ, zero, suc, ◌+◌, ◌-◌, ◌%◌, ◌≤◌, ◌<◌}
use native.Mathlib.Nat.{zero-add, add-zero, add-suc, mod-eq_of_lt}
use native.Mathlib.Decide.{dec_lt}
use native.Mathlib.Omega.{arith}
use mathlib.Core.Path.{◌≡◌, refl, sym, ◌∙◌}
use mathlib.Core.Bool.{false}
use lib.Dec.{eqb, eqb-suc-suc, eqb-suc-zero, eqb-zero-suc}
use lib.IntN.{pos, neg_ℤ, ◌-ℤ◌, neg_ℤ-neg_ℤ, +ℤ_idl, +ℤ_idr}
use borrow.Author.Tests.{ne_eqb}
use Rattle.range.specs.Below.{sum_below, one_if}
use Rattle.range.specs.Signed.{sumℤ}
use Rattle.range.proofs.Tests.{eqb_of_iff}
use Rattle.range.proofs.SumsSigned.{sumℤ_cong}
use Rattle.range.proofs.Shifts.{sumℤ_difference}
use Rattle.rules.specs.Shape.{phases, half_turn}
use Rattle.rules.specs.Autocorrelation.{times_phase, phase_power}
use Rattle.rules.proofs.Range.{phases_half}

-- turning k times carries coordinate t to t + k
phase_power_on : (h e t k : ℕ) → phase_power h (e + k) (t + k) ≡ phase_power h e t
unfolding phase_power times_phase
phase_power_on h e t zero = rw (add-zero e, add-zero t)
phase_power_on h e t (suc k) = rw (add-suc e k, add-suc t k) (phase_power_on h e t k)

phase_power_back : (h e : ℕ) → phase_power h (suc e) 0 ≡ neg_ℤ (phase_power h e (half_turn h - 1))
unfolding phase_power times_phase
phase_power_back h e = refl

-- half a turn more is the negation: x^(2^(h-1)) is -1
pub phase_power_half : (h e t : ℕ) → t < half_turn h → phase_power h (e + half_turn h) t ≡ neg_ℤ (phase_power h e t)
phase_power_half h e t b =
    let k : ℕ = half_turn h - 1 - t in
    let p : e + half_turn h ≡ suc (e + k) + t = omega arith in
    let q : half_turn h - 1 ≡ t + k = omega arith in
    cc (zero-add t, phase_power_on h (suc (e + k)) 0 t, phase_power_back h (e + k), phase_power_on h e t k)

-- a whole turn more changes nothing, so exponents may be reduced modulo 2^h
pub phase_power_turn : (h e t : ℕ) → 1 ≤ h → t < half_turn h → phase_power h (e + phases h) t ≡ phase_power h e t
phase_power_turn h e t one b =
    let p : e + phases h ≡ e + half_turn h + half_turn h = omega (arith, phases_half h one) in
    rw (p, phase_power_half h (e + half_turn h) t b, phase_power_half h e t b) (neg_ℤ-neg_ℤ (phase_power h e t))

-- x^0 is 1
pub phase_power_zero : (h t : ℕ) → phase_power h 0 t ≡ pos (one_if (eqb t 0))
unfolding phase_power
phase_power_zero h zero = refl
phase_power_zero h (suc t) = rw (eqb-suc-zero t)

-- below half a turn x^e has a 1 at coordinate e
phase_power_below : (h e t : ℕ) → e < half_turn h → t < half_turn h → phase_power h e t ≡ pos (one_if (eqb e t))
unfolding phase_power times_phase
phase_power_below h zero zero p q = refl
phase_power_below h zero (suc t) p q = rw (eqb-zero-suc t)
phase_power_below h (suc e) zero p q =
    let last : eqb e (half_turn h - 1) ≡ false = ne_eqb e (half_turn h - 1) (λ x. omega arith) in
    rw (phase_power_below h e (half_turn h - 1) (omega arith) (omega arith), last, eqb-suc-zero e)
phase_power_below h (suc e) (suc t) p q = rw (eqb-suc-suc e t) (phase_power_below h e t (omega arith) (omega arith))

eqb_add : (a b k : ℕ) → eqb (a + k) (b + k) ≡ eqb a b
eqb_add a b k = eqb_of_iff (a + k) (b + k) a b (λ e. omega arith) (λ e. omega arith)

-- from half a turn on it has a -1 at coordinate e less half a turn
phase_power_above : (h e t : ℕ) → 1 ≤ h → half_turn h ≤ e → e < phases h → t < half_turn h →
    phase_power h e t ≡ neg_ℤ (pos (one_if (eqb e (t + half_turn h))))
phase_power_above h e t one a p q =
    let d : ℕ = e - half_turn h in
    let s : d + half_turn h ≡ e = omega arith in
    let l : d < half_turn h = omega (arith, phases_half h one) in
    cc (phase_power_half h d t q, phase_power_below h d t l q, eqb_add d t (half_turn h))

-- both in one
phase_power_is : (h e t : ℕ) → 1 ≤ h → e < phases h → t < half_turn h →
    phase_power h e t ≡ pos (one_if (eqb e t)) -ℤ pos (one_if (eqb e (t + half_turn h)))
phase_power_is h e t one p q = at (dec_lt e (half_turn h))
  where
    at : Dec (e < half_turn h) → phase_power h e t ≡ pos (one_if (eqb e t)) -ℤ pos (one_if (eqb e (t + half_turn h)))
    at (yes l) =
        rw (ne_eqb e (t + half_turn h) (λ x. omega arith))
        (phase_power_below h e t l q ∙ sym (+ℤ_idr (pos (one_if (eqb e t)))))
    at (no l) =
        rw (ne_eqb e t (λ x. omega arith), phase_power_above h e t one (omega arith) p q)
        (sym (+ℤ_idl (neg_ℤ (pos (one_if (eqb e (t + half_turn h)))))))

-- the same, by tests for a phase modulo 2^h
phase_power_tests : (h e t : ℕ) → 1 ≤ h → e < phases h → t < half_turn h →
    phase_power h e t ≡ pos (one_if (eqb e (t % phases h))) -ℤ pos (one_if (eqb e ((t + half_turn h) % phases h)))
phase_power_tests h e t one p q =
    let low : t % phases h ≡ t = mod-eq_of_lt (omega (arith, phases_half h one)) in
    let high : (t + half_turn h) % phases h ≡ t + half_turn h = mod-eq_of_lt (omega (arith, phases_half h one)) in
    rw (low, high) (phase_power_is h e t one p q)

-- how often the phase t is taken, less how often the one half a turn on
pub sumℤ_phase_power : (h n : ℕ) (d : ℕ → ℕ) (t : ℕ) → 1 ≤ h → ((i : ℕ) → d i < phases h) → t < half_turn h →
    sumℤ n (λ i. phase_power h (d i) t) ≡
    pos (sum_below n (λ i. one_if (eqb (d i) (t % phases h)))) -ℤ
    pos (sum_below n (λ i. one_if (eqb (d i) ((t + half_turn h) % phases h))))
sumℤ_phase_power h n d t one inside l =
    sumℤ_cong n _ _ (λ i _. phase_power_tests h (d i) t one (inside i) l) ∙ sumℤ_difference n _ _
