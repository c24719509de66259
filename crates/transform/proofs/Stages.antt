-- Stages one after another, between two areas. In order: a stage of code is a stage of the rules; an area that holds
-- what stands after k stages may be read by the next, and what that writes is what stands after k + 1; which area holds
-- which stage, before the first, after an even number, after an odd one.
-- Not here: one stage by itself (Halves); the loop over them (Between); what the areas hold at the end (AreasAfter).
-- Assumes nothing.
use Prim.Native.Nat.{ℕ, zero, suc, ◌+◌, ◌-◌, ◌*◌, ◌/◌, ◌%◌, ◌^◌, ◌≤◌, ◌<◌}
use native.Mathlib.Nat.{lt_of_lt_of_le}
use native.Mathlib.Omega.{arith}
use mathlib.Core.Path.{◌≡◌, refl, sym, ◌∙◌, ap}
use mathlib.Core.Bool.{true}
use mathlib.Core.List.{List}
use lib.Dec.{lit≤}
use lib.IntN.{ℤ, pos}
use lib.ListN.{length}
use lib.Pow.{pow_pos}
use Rattle.range.specs.Below.{filled}
use Rattle.range.specs.Signed.{entry}
use Rattle.range.proofs.Filled.{length_filled, filled_at, filled_cong, filled_filled, filled_same}
use Rattle.rules.specs.Shape.{greatest_m, carriers}
use Rattle.rules.specs.Place.{digit}
use Rattle.rules.specs.Spectrum.{accepted, stage, stages}
use Rattle.spectrum.proofs.Blocks.{block_count}
use Rattle.spectrum.proofs.Places.{stages_turn}
use Rattle.spectrum.proofs.Bounds.{most_entry, stages_most}
use Rattle.transform.specs.Butterflies.{addable, butterfly, Readable, first_at, second_at}

-- no entry of any stage is too great
pub most_entry_le : most_entry ≤ addable
most_entry_le = lit≤ tt

butterfly_is_stage : (m k : ℕ) (y : ℕ → ℤ) (i : ℕ) → butterfly (2 ^ (m - k)) y i ≡ stage m k y i
unfolding butterfly stage digit
butterfly_is_stage m k y i = refl

-- an area whose first N entries are what stands after k stages of y
pub record Holds (m k : ℕ) (y : ℕ → ℤ) (area : List ℤ) : Type 0 where
  pub long : carriers m ≤ length area
  pub entries : (i : ℕ) → i < carriers m → entry area i ≡ stages m k y i

module _ (m k : ℕ) (y : ℕ → ℤ) (area : List ℤ) (h : Holds m k y area) (l : suc k ≤ m) where
  pub holds_readable : m ≤ greatest_m → ((i : ℕ) → i < carriers m → accepted (y i) ≡ true) →
      Readable (2 ^ (m - suc k)) (carriers m) area
  holds_readable g a = record {
    stride = pow_pos (m - suc k);
    blocks = record { number = 2 ^ k; at = block_count m k l };
    long = h.long;
    small = λ i b. rw (h.entries i b) (lt_of_lt_of_le (stages_most m k y g a i (omega arith) b) most_entry_le);
  }

  pub holds_turn : (to : List ℤ) →
      filled (carriers m) (butterfly (2 ^ (m - suc k)) (entry area)) to ≡ filled (carriers m) (stages m (suc k) y) to
  holds_turn to =
      filled_cong (carriers m) _ _ to (λ i b.
      butterfly_is_stage m (suc k) (entry area) i ∙ stages_turn m k y (entry area) h.entries i l b)

filled_holds : (m k : ℕ) (y : ℕ → ℤ) (area : List ℤ) → carriers m ≤ length area →
    Holds m k y (filled (carriers m) (stages m k y) area)
filled_holds m k y area l = record {
  long = rw (length_filled (carriers m) (stages m k y) area l) l;
  entries = λ i b. filled_at (carriers m) (stages m k y) area i (pos 0) b;
}

-- the last even number up to k, and the last odd one
even_is : (k : ℕ) → k % 2 ≡ 0 → 2 * (k / 2) ≡ k
even_is k e = omega arith

module _ (m : ℕ) (a b : List ℤ) (p : carriers m ≤ length a) (q : carriers m ≤ length b) where
  -- an area that holds one number of stages holds another that is equal
  holding : (area : List ℤ) {i j : ℕ} → i ≡ j →
      filled (carriers m) (stages m i (entry a)) area ≡ filled (carriers m) (stages m j (entry a)) area
  holding area e = ap (λ (k : ℕ). filled (carriers m) (stages m k (entry a)) area) e

  pub first_at_none : a ≡ first_at m 0 a
  unfolding first_at stages
  first_at_none = sym (filled_same (carriers m) a (pos 0) p)

  pub second_at_none : b ≡ second_at m 0 a b
  unfolding second_at
  second_at_none = refl

  pub length_first_at : (k : ℕ) → length (first_at m k a) ≡ length a
  unfolding first_at
  length_first_at k = length_filled (carriers m) (stages m (2 * (k / 2)) (entry a)) a p

  pub length_second_at : (k : ℕ) → length (second_at m k a b) ≡ length b
  unfolding second_at
  length_second_at zero = refl
  length_second_at (suc k) = length_filled (carriers m) (stages m (2 * (k / 2) + 1) (entry a)) b q

  -- after an even number of stages the first area holds the last; the next writes the second, and the first stays
  pub first_at_holds : (k : ℕ) → k % 2 ≡ 0 → Holds m k (entry a) (first_at m k a)
  unfolding first_at
  first_at_holds k e = rw (even_is k e) (filled_holds m k (entry a) a p)

  second_at_over : (k : ℕ) (f : ℕ → ℤ) → filled (carriers m) f (second_at m k a b) ≡ filled (carriers m) f b
  unfolding second_at
  second_at_over zero f = refl
  second_at_over (suc k) f = filled_filled (carriers m) f (stages m (2 * (k / 2) + 1) (entry a)) b

  pub second_at_turn : (k : ℕ) → k % 2 ≡ 0 →
      filled (carriers m) (stages m (suc k) (entry a)) (second_at m k a b) ≡ second_at m (suc k) a b
  unfolding second_at
  second_at_turn k e =
      let j : suc k ≡ 2 * (k / 2) + 1 = omega arith in
      second_at_over k (stages m (suc k) (entry a)) ∙ holding b j

  pub first_at_stays : (k : ℕ) → k % 2 ≡ 0 → first_at m k a ≡ first_at m (suc k) a
  unfolding first_at
  first_at_stays k e =
      let j : 2 * (k / 2) ≡ 2 * (suc k / 2) = omega arith in
      holding a j

  -- after an odd number it is the other way round
  pub second_at_holds : (k : ℕ) → k % 2 ≡ 1 → Holds m k (entry a) (second_at m k a b)
  unfolding second_at
  second_at_holds zero e = absurd (omega arith)
  second_at_holds (suc k) e =
      let j : 2 * (k / 2) + 1 ≡ suc k = omega arith in
      rw j (filled_holds m (suc k) (entry a) b q)

  pub first_at_turn : (k : ℕ) → k % 2 ≡ 1 →
      filled (carriers m) (stages m (suc k) (entry a)) (first_at m k a) ≡ first_at m (suc k) a
  unfolding first_at
  first_at_turn k e =
      let j : suc k ≡ 2 * (suc k / 2) = omega arith in
      filled_filled (carriers m) (stages m (suc k) (entry a)) (stages m (2 * (k / 2)) (entry a)) a ∙ holding a j

  pub second_at_stays : (k : ℕ) → k % 2 ≡ 1 → second_at m k a b ≡ second_at m (suc k) a b
  unfolding second_at
  second_at_stays zero e = absurd (omega arith)
  second_at_stays (suc k) e =
      let j : 2 * (k / 2) + 1 ≡ 2 * (suc k / 2) + 1 = omega arith in
      holding b j
