-- Laws of the pair check. In order: the test of a pair is the claim; words that agree below N are pairs alike; no word
-- is a pair with itself.
-- Assumes nothing.
use Prim.Native.Nat.{ℕ, zero, suc, ◌+◌, ◌-◌, ◌%◌, ◌≤◌, ◌<◌}
use native.Mathlib.Nat.{mod-eq_of_lt}
use native.Mathlib.Omega.{arith}
use mathlib.Core.Path.{◌≡◌, sym, ap}
use mathlib.Core.Bool.{true, false}
use mathlib.Core.Logic.{◌↔◌}
use lib.Dec.{eqb}
use lib.Pow.{pow_pos, pow_mono}
use borrow.Author.Tests.{eq-eqb, eqb-true, ne_eqb}
use Rattle.range.specs.Below.{sum_below, count_below, one_if}
use Rattle.range.proofs.Sums.{sum_below_cong}
use Rattle.range.proofs.Tests.{all_below_of, all_below_at, all_below_not}
use Rattle.range.proofs.FromOne.{from_one_of, from_one_at, from_one_not}
use Rattle.rules.specs.Shape.{phases, half_turn, carriers}
use Rattle.rules.specs.Pair.{minus, phase_count, pair_count, GolayPair, golay_pair, phases_agree}
use Rattle.rules.proofs.Differences.{minus_lt}
use Rattle.rules.proofs.Turns.{half_turn_moves}

module _ (h m : ℕ) (a b : ℕ → ℕ) where
  golay_pair_at : golay_pair h m a b ≡ true → GolayPair h m a b
  unfolding golay_pair
  golay_pair_at e u l s k r =
      eqb-true _ _ (all_below_at (phases h) _ (from_one_at (carriers m) (phases_agree h (carriers m) a b) e u s l) k r)

  golay_pair_of : GolayPair h m a b → golay_pair h m a b ≡ true
  unfolding golay_pair
  golay_pair_of e =
      from_one_of (carriers m) (phases_agree h (carriers m) a b)
      (λ u s l. all_below_of (phases h) _ (λ k r. eq-eqb _ _ (e u l s k r)))

  pub golay_pair_iff : (golay_pair h m a b ≡ true) ↔ GolayPair h m a b
  golay_pair_iff = (golay_pair_at, golay_pair_of)

-- the counts look at places below n alone
phase_count_cong : (h n : ℕ) (a b : ℕ → ℕ) (u k : ℕ) → ((i : ℕ) → i < n → a i ≡ b i) →
    phase_count h n a u k ≡ phase_count h n b u k
unfolding phase_count count_below
phase_count_cong h n a b u k same =
    sum_below_cong (n - u) _ _ (λ i l. rw (same i (omega arith), same (i + u) (omega arith)))

pub golay_pair_cong : (h m : ℕ) (a b c d : ℕ → ℕ) → ((i : ℕ) → i < carriers m → a i ≡ c i) →
    ((i : ℕ) → i < carriers m → b i ≡ d i) → GolayPair h m a b → GolayPair h m c d
unfolding pair_count
golay_pair_cong h m a b c d same same' pair u l s k r =
    let n = carriers m in
    let f : (j : ℕ) → phase_count h n a u j ≡ phase_count h n c u j = λ j. phase_count_cong h n a c u j same in
    let g : (j : ℕ) → phase_count h n b u j ≡ phase_count h n d u j = λ j. phase_count_cong h n b d u j same' in
    let j : ℕ = k + half_turn h in
    omega (arith, pair u l s k r, f k, g k, f j, g j)

-- at the last shift one place is left, the first, with this difference
abbrev ends : ℕ → ℕ → (ℕ → ℕ) → ℕ
ends h n a = minus (phases h) (a 0) (a (0 + (n - 1)))

ends_lt : (h n : ℕ) (a : ℕ → ℕ) → ends h n a < phases h
ends_lt h n a = minus_lt (phases h) (a 0) (a (0 + (n - 1))) (pow_pos h)

phase_count_last : (h n : ℕ) (a : ℕ → ℕ) (k : ℕ) → 1 ≤ n →
    phase_count h n a (n - 1) k ≡ one_if (eqb (ends h n a) (k % phases h))
unfolding phase_count count_below sum_below
phase_count_last h n a k l = let e : n - (n - 1) ≡ suc zero = omega arith in rw e (omega arith)

-- a place in each of two equal words with the same difference, and none half a turn on
pair_count_ends_ne : (h n : ℕ) (a : ℕ → ℕ) → 1 ≤ h → 1 ≤ n →
    pair_count h n a a (n - 1) (ends h n a) ≡ pair_count h n a a (n - 1) (ends h n a + half_turn h) → ⊥
unfolding pair_count
pair_count_ends_ne h n a l s e =
    let d = ends h n a in
    let here : one_if (eqb d (d % phases h)) ≡ 1
    = ap one_if (eq-eqb d (d % phases h) (sym (mod-eq_of_lt (ends_lt h n a)))) in
    let across : one_if (eqb d ((d + half_turn h) % phases h)) ≡ 0
    = ap one_if (ne_eqb d ((d + half_turn h) % phases h) (λ x. half_turn_moves h d l (ends_lt h n a) (sym x))) in
    omega (arith, here, across, phase_count_last h n a d s, phase_count_last h n a (d + half_turn h) s)

pub golay_pair_self : (h m : ℕ) (a : ℕ → ℕ) → 1 ≤ h → 1 ≤ m → golay_pair h m a a ≡ false
unfolding golay_pair
golay_pair_self h m a l r =
    let n = carriers m in
    let p : 2 ≤ n = pow_mono {i = 1} {j = m} r in
    from_one_not n (phases_agree h n a a) (n - 1) (omega arith) (omega arith)
    (all_below_not (phases h) _ (ends h n a) (ends_lt h n a) (ne_eqb _ _ (pair_count_ends_ne h n a l (omega arith))))
