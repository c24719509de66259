-- The loop over the stages, as a record of what stands after k of them, and its turns.
-- In order: what stands; the stride halves; after the last stage; before the first; the stride of the next; a turn
-- after an even number of stages, and after an odd one: what the stage may read, and what stands then.
-- Not here: which area holds which stage (Stages).  Assumes nothing.
use Prim.Native.Nat.{ℕ, suc, ◌+◌, ◌-◌, ◌/◌, ◌%◌, ◌^◌, ◌≤◌, ◌<◌}
use native.Mathlib.Nat.{sub-zero, pow-suc}
use native.Mathlib.Numerals.{add-one}
use native.Mathlib.Omega.{arith}
use mathlib.Core.Path.{◌≡◌, sym, ◌∙◌, ap}
use mathlib.Core.List.{List}
use lib.IntN.{ℤ}
use lib.ListN.{length}
use Rattle.range.specs.Below.{filled}
use Rattle.range.specs.Signed.{entry}
use Rattle.rules.specs.Shape.{carriers}
use Rattle.rules.specs.Spectrum.{stages}
use Rattle.rules.proofs.Range.{in_m_range}
use Rattle.rules.proofs.RefusalLaws.{TransformTaken}
use Rattle.transform.specs.Butterflies.{butterfly, Stride, Readable, first_at, second_at}
use Rattle.transform.proofs.Stages.{Holds, holds_readable, holds_turn, first_at_none, second_at_none}
use Rattle.transform.proofs.Stages.{length_first_at, length_second_at}
use Rattle.transform.proofs.Stages.{first_at_holds, first_at_turn, first_at_stays}
use Rattle.transform.proofs.Stages.{second_at_holds, second_at_turn, second_at_stays}

pub record Between (m : ℕ) (a b : List ℤ) (first second : List ℤ) (s k : ℕ) : Type 0 where
  pub count : k ≤ m
  pub stride : s ≡ 2 ^ (m - k)
  pub here : first ≡ first_at m k a
  pub there : second ≡ second_at m k a b

half_power : (d : ℕ) → 2 ^ suc d / 2 ≡ 2 ^ d
half_power d = omega (arith, pow-suc 2 d)

stride_half : (m k s : ℕ) → k < m → s ≡ 2 ^ (m - k) → s / 2 ≡ 2 ^ (m - suc k)
stride_half m k s l e =
    let d : m - k ≡ suc (m - suc k) = omega arith in
    ap (λ (n : ℕ). n / 2) (e ∙ ap (λ (n : ℕ). 2 ^ n) d) ∙ half_power (m - suc k)

-- after the last stage
pub between_all : {m : ℕ} {a b first second : List ℤ} {s k : ℕ} → Between m a b first second s k → m ≤ k →
    (first ≡ first_at m m a) × (second ≡ second_at m m a b)
between_all {m} {a} {b} {k = k} v l =
    let e : k ≡ m = omega (arith, v.count) in
    (v.here ∙ ap (λ (j : ℕ). first_at m j a) e, v.there ∙ ap (λ (j : ℕ). second_at m j a b) e)

module _ (m n : ℕ) (a b : List ℤ) (t : TransformTaken m a b) (size : n ≡ carriers m) where
  pub between_none : Between m a b a b n 0
  between_none = record {
    count = omega arith;
    stride = size ∙ ap (λ (j : ℕ). 2 ^ j) (sym (sub-zero m));
    here = first_at_none m a b t.first t.second;
    there = second_at_none m a b t.first t.second;
  }

  module _ (first second : List ℤ) (s k : ℕ) (v : Between m a b first second s k) where
    pub between_first : length first ≡ length a
    between_first = ap length v.here ∙ length_first_at m a b t.first t.second k

    pub between_second : length second ≡ length b
    between_second = ap length v.there ∙ length_second_at m a b t.first t.second k

    -- the stride of the next stage
    pub between_stride : k < m → Stride (s / 2)
    between_stride l = record {
      digit = m - suc k;
      below = omega (arith, (in_m_range m t.range).1);
      at = stride_half m k s l v.stride;
    }

    -- one stage more: what stands then, from what each area holds
    onward : k < m → {first' second' : List ℤ} → first' ≡ first_at m (suc k) a → second' ≡ second_at m (suc k) a b →
        Between m a b first' second' (s / 2) (k + 1)
    onward l p q =
        rw (add-one k) (record { count = l; stride = stride_half m k s l v.stride; here = p; there = q })

    -- a stage that reads an area which holds the last stage, and writes the other, which then holds this one
    module _ (l : k < m) (from : List ℤ) (h : Holds m k (entry a) from) where
      readable : Readable (s / 2) n from
      readable =
          rw (stride_half m k s l v.stride, size)
          (holds_readable m k (entry a) from h l (in_m_range m t.range).1 t.values)

      turned : {to was after : List ℤ} → after ≡ filled n (butterfly (s / 2) (entry from)) to → to ≡ was →
          after ≡ filled (carriers m) (stages m (suc k) (entry a)) was
      turned {to} e q =
          e ∙ rw (stride_half m k s l v.stride, size) (holds_turn m k (entry a) from h l to)
          ∙ ap (filled (carriers m) (stages m (suc k) (entry a))) q

    module _ (l : k < m) (e : k % 2 ≡ 0) where
      holds_first : Holds m k (entry a) first
      holds_first = rw v.here (first_at_holds m a b t.first t.second k e)

      pub between_reads_first : Readable (s / 2) n first
      between_reads_first = readable l first holds_first

      pub between_even : (after : List ℤ) → after ≡ filled n (butterfly (s / 2) (entry first)) second →
          Between m a b first after (s / 2) (k + 1)
      between_even after q =
          onward l (v.here ∙ first_at_stays m a b t.first t.second k e)
          (turned l first holds_first q v.there ∙ second_at_turn m a b t.first t.second k e)

    module _ (l : k < m) (e : k % 2 ≡ 1) where
      holds_second : Holds m k (entry a) second
      holds_second = rw v.there (second_at_holds m a b t.first t.second k e)

      pub between_reads_second : Readable (s / 2) n second
      between_reads_second = readable l second holds_second

      pub between_odd : (after : List ℤ) → after ≡ filled n (butterfly (s / 2) (entry second)) first →
          Between m a b after second (s / 2) (k + 1)
      between_odd after q =
          onward l (turned l second holds_second q v.here ∙ first_at_turn m a b t.first t.second k e)
          (v.there ∙ second_at_stays m a b t.first t.second k e)
