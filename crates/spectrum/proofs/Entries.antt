-- What each entry is after k stages: rules' Spectrum. In order: a spectrum of twice as many entries, from those of the
-- entries at even and at odd places; a place counted in blocks twice as long; the two entries of a pair after one
-- stage more; every entry after k stages; after all, the spectrum.
-- Not here: one stage by itself (StagePairs).  Assumes nothing.
use Prim.Native.Nat.{ℕ, zero, suc, ◌+◌, ◌-◌, ◌*◌, ◌/◌, ◌%◌, ◌^◌, ◌≤◌, ◌<◌}
use native.Mathlib.Nat.{zero-add, add-zero, zero-mul, mul-one, suc-mul, mul_comm, sub_self, sub-zero, le_refl}
use native.Mathlib.Nat.{div-one, mod-one, div-div-eq-div-mul, add-div_right, add-mod_right, mod-eq_of_lt}
use native.Mathlib.Nat.{pow-suc, pow-succ'}
use native.Mathlib.Omega.{arith}
use mathlib.Core.Path.{◌≡◌, sym, ◌∙◌, ap}
use lib.Arith.{mod-mul}
use lib.IntN.{ℤ, ◌+ℤ◌, ◌-ℤ◌, +ℤ_idr}
use lib.Pow.{pow_pos}
use Rattle.range.specs.Below.{sum_below}
use Rattle.range.specs.Signed.{sumℤ, negated_if}
use Rattle.range.proofs.SumsSigned.{sumℤ_negated_if, sumℤ_even_odd}
use Rattle.rules.specs.Shape.{carriers}
use Rattle.rules.specs.Place.{digit}
use Rattle.rules.specs.Spectrum.{odd, shared, spectrum_at, stages}
use Rattle.spectrum.proofs.StagePairs.{double_mul, stage_first, stage_second, pairs_all}
use Rattle.spectrum.proofs.Shared.{shared_even, shared_odd, negated_if_odd_add}

pub spectrum_at_suc : (m : ℕ) (y : ℕ → ℤ) (j : ℕ) → spectrum_at (suc m) y j
    ≡ spectrum_at m (λ b. y (b + b)) (j / 2) +ℤ negated_if (odd j) (spectrum_at m (λ b. y (suc (b + b))) (j / 2))
unfolding spectrum_at
spectrum_at_suc m y j =
    let c : carriers (suc m) ≡ carriers m + carriers m = omega (arith, pow-suc 2 m) in
    rw c (sumℤ_even_odd (carriers m) (λ i. negated_if (odd (shared (suc m) i j)) (y i))
    ∙ simp (shared_even, shared_odd, negated_if_odd_add, sumℤ_negated_if))

-- with the places in blocks of s: entry i / s of the spectrum of the values that stand in their blocks where i does
abbrev pub entry_at : ℕ → ℕ → (ℕ → ℤ) → ℕ → ℤ
entry_at k s y i = spectrum_at k (λ b. y (b * s + i % s)) (i / s)

-- the same from every second block, the even ones and the odd ones
abbrev evens : ℕ → ℕ → (ℕ → ℤ) → ℕ → ℤ
evens k s y i = spectrum_at k (λ b. y ((b + b) * s + i % s)) (i / s / 2)

abbrev odds : ℕ → ℕ → (ℕ → ℤ) → ℕ → ℤ
odds k s y i = spectrum_at k (λ b. y (suc (b + b) * s + i % s)) (i / s / 2)

div_double : (i s : ℕ) → i / (2 * s) ≡ i / s / 2
div_double i s = ap (λ (n : ℕ). i / n) (mul_comm 2 s) ∙ sym (div-div-eq-div-mul i s 2)

module _ (k s : ℕ) (y : ℕ → ℤ) (i : ℕ) (p : 0 < s) (e : i / s % 2 ≡ 0) where
  mod_first : i % (2 * s) ≡ i % s
  mod_first = mod-mul i {m = 2} {c = s} (omega arith) p ∙ rw e (omega arith)

  odd_second : (i / s + 1) % 2 ≡ 1
  odd_second = omega arith

  half_second : (i / s + 1) / 2 ≡ i / s / 2
  half_second = omega arith

  mod_second : (i + s) % (2 * s) ≡ s + i % s
  mod_second =
      mod-mul (i + s) {m = 2} {c = s} (omega arith) p
      ∙ rw (add-div_right i p, add-mod_right i s, odd_second) (omega arith)

  entry_evens : entry_at k (2 * s) y i ≡ evens k s y i
  entry_evens = rw (div_double i s, mod_first) (simp double_mul)

  entry_odds : entry_at k (2 * s) y (i + s) ≡ odds k s y i
  entry_odds =
      let place : (b : ℕ) → b * (2 * s) + (s + i % s) ≡ suc (b + b) * s + i % s =
      λ b. omega (arith, double_mul b s, suc-mul (b + b) s) in
      rw (div_double (i + s) s, mod_second, add-div_right i p, half_second) (simp place)

  pub entry_first : entry_at (suc k) s y i ≡ entry_at k (2 * s) y i +ℤ entry_at k (2 * s) y (i + s)
  entry_first = rw (entry_evens, entry_odds) (spectrum_at_suc k (λ b. y (b * s + i % s)) (i / s) ∙ rw e)

  pub entry_second : entry_at (suc k) s y (i + s) ≡ entry_at k (2 * s) y i -ℤ entry_at k (2 * s) y (i + s)
  entry_second =
      rw (entry_evens, entry_odds, add-div_right i p, add-mod_right i s)
      (spectrum_at_suc k (λ b. y (b * s + i % s)) (i / s + 1) ∙ rw (odd_second, half_second))

stride_double : (m k : ℕ) → suc k ≤ m → 2 ^ (m - k) ≡ 2 * 2 ^ (m - suc k)
stride_double m k h =
    let e : m - k ≡ suc (m - suc k) = omega arith in
    ap (λ (n : ℕ). 2 ^ n) e ∙ pow-succ' 2 (m - suc k)

-- what stands at place i after k stages
abbrev After : ℕ → ℕ → (ℕ → ℤ) → ℕ → Type 0
After m k y i = stages m k y i ≡ entry_at k (2 ^ (m - k)) y i

after_zero : (m : ℕ) (y : ℕ → ℤ) (i : ℕ) → i < carriers m → After m 0 y i
unfolding stages spectrum_at sumℤ shared sum_below
after_zero m y i l = rw (sub-zero, mod-eq_of_lt l, zero-mul, zero-add) (sym (+ℤ_idr (y i)))

after_suc : (m k : ℕ) (y : ℕ → ℤ) → suc k ≤ m → ((i : ℕ) → i < carriers m → After m k y i) → (i : ℕ) →
    i < carriers m → After m (suc k) y i
unfolding stages digit
after_suc m k y h before =
    let s : ℕ = 2 ^ (m - suc k) in
    let p : 0 < s = pow_pos (m - suc k) in
    let b : (i : ℕ) → i < carriers m → stages m k y i ≡ entry_at k (2 * s) y i =
    λ i l. rw stride_double at (before i l) in
    pairs_all m (suc k) (omega arith) h (After m (suc k) y) (λ i e u v. (
      stage_first m (suc k) (stages m k y) i e ∙ rw (b i u, b (i + s) v) (sym (entry_first k s y i p e)),
      stage_second m (suc k) (stages m k y) i e ∙ rw (b i u, b (i + s) v) (sym (entry_second k s y i p e)),
    ))

pub stages_entry : (m k : ℕ) (y : ℕ → ℤ) (i : ℕ) → k ≤ m → i < carriers m →
    stages m k y i ≡ spectrum_at k (λ b. y (b * 2 ^ (m - k) + i % 2 ^ (m - k))) (i / 2 ^ (m - k))
stages_entry m zero y i h l = after_zero m y i l
stages_entry m (suc k) y i h l = after_suc m k y h (λ j b. stages_entry m k y j (omega arith) b) i l

-- the stages composed give the sum with the signs of the rules
pub stages_spectrum : (m : ℕ) (y : ℕ → ℤ) (i : ℕ) → i < carriers m → stages m m y i ≡ spectrum_at m y i
stages_spectrum m y i l = stages_entry m m y i (le_refl m) l ∙ simp (sub_self, div-one, mod-one, mul-one, add-zero)
