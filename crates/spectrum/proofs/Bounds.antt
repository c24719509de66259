-- How great the values after a stage are: rules' Spectrum. `mag z < w` says -w ≤ z < w, so that -32,768 has 32,767.
-- In order: what is accepted is small; one stage doubles a bound; k stages multiply it by 2^k; a bound for every stage
-- of every m in range, which follows from the range of the inputs.
-- Not here: what the values are (Entries).  Assumes nothing.
use Prim.Native.Nat.{ℕ, zero, suc, ◌+◌, ◌-◌, ◌*◌, ◌^◌, ◌≤◌, ◌<◌}
use native.Mathlib.Nat.{pow-succ', mul_assoc, mul-le-mul_right, lt_of_lt_of_le}
use native.Mathlib.Omega.{arith}
use mathlib.Core.Path.{◌≡◌, ◌∙◌, ap}
use mathlib.Core.Bool.{true}
use lib.Dec.{leb}
use lib.IntN.{ℤ, pos, negsuc}
use lib.Pow.{pow_mono}
use lib.Signed.{mag}
use borrow.Author.Tests.{leb-true}
use Rattle.range.proofs.Tests.{and_left}
use Rattle.range.proofs.SumsSigned.{mag_add, mag_sub}
use Rattle.rules.specs.Shape.{greatest_m, carriers}
use Rattle.rules.specs.Spectrum.{widest, accepted, stage, stages}
use Rattle.spectrum.proofs.StagePairs.{stage_first, stage_second, pairs_all}

pub accepted_mag : (z : ℤ) → accepted z ≡ true → mag z < widest
accepted_mag (pos n) e = omega (arith, leb-true n (widest - 1) e)
accepted_mag (negsuc n) e = omega (arith, leb-true n (widest - 1) (and_left (leb n (widest - 1)) true e))

pub stage_bound : (m k w : ℕ) (y : ℕ → ℤ) → ((i : ℕ) → i < carriers m → mag (y i) < w) → (i : ℕ) → 1 ≤ k → k ≤ m →
    i < carriers m → mag (stage m k y i) < w + w
stage_bound m k w y small i a b l =
    let s : ℕ = 2 ^ (m - k) in
    pairs_all m k a b (λ j. mag (stage m k y j) < w + w) (λ j e u v. (
      rw (stage_first m k y j e) (mag_add (y j) (y (j + s)) w (small j u) (small (j + s) v)),
      rw (stage_second m k y j e) (mag_sub (y j) (y (j + s)) w (small j u) (small (j + s) v)),
    )) i l

pow_suc_mul : (k w : ℕ) → 2 ^ suc k * w ≡ 2 ^ k * w + 2 ^ k * w
pow_suc_mul k w = ap (λ (n : ℕ). n * w) (pow-succ' 2 k) ∙ mul_assoc 2 (2 ^ k) w ∙ omega arith

pub stages_bound : (m k w : ℕ) (y : ℕ → ℤ) → ((i : ℕ) → i < carriers m → mag (y i) < w) → (i : ℕ) → k ≤ m →
    i < carriers m → mag (stages m k y i) < 2 ^ k * w
unfolding stages
stages_bound m zero w y small i h l = omega (arith, small i l)
stages_bound m (suc k) w y small i h l =
    let before : (j : ℕ) → j < carriers m → mag (stages m k y j) < 2 ^ k * w =
    λ j b. stages_bound m k w y small j (omega arith) b in
    rw (pow_suc_mul k w) (stage_bound m (suc k) (2 ^ k * w) (stages m k y) before i (omega arith) h l)

-- the size that no entry reaches, whatever the stage, for every m and every input in range
abbrev pub most_entry : ℕ
most_entry = carriers greatest_m * widest

pub stages_most : (m k : ℕ) (y : ℕ → ℤ) → m ≤ greatest_m → ((i : ℕ) → i < carriers m → accepted (y i) ≡ true) →
    (i : ℕ) → k ≤ m → i < carriers m → mag (stages m k y i) < most_entry
stages_most m k y h a i l b =
    lt_of_lt_of_le (stages_bound m k widest y (λ j c. accepted_mag (y j) (a j c)) i l b)
    (mul-le-mul_right widest (pow_mono {i = k} {j = greatest_m} (omega arith)))
