-- What a stage writes in the two halves of a block of 2 s entries, and where blocks begin.
-- In order: the greatest stride; the first block, the next, the last; the first half, and the second; a loop over a
-- block that writes both halves (`Halved`): before it, a turn, its end.
-- Not here: stages one after another (Stages).  Assumes nothing.
use Prim.Native.Nat.{ℕ, zero, suc, ◌+◌, ◌-◌, ◌*◌, ◌/◌, ◌%◌, ◌^◌, ◌≤◌, ◌<◌}
use native.Mathlib.Nat.{add-div_right, suc-mul, zero-mul}
use native.Mathlib.Numerals.{add-one}
use native.Mathlib.Omega.{arith}
use mathlib.Core.Path.{◌≡◌, refl, sym, ◌∙◌, ap}
use mathlib.Core.Logic.{⊎_elim}
use mathlib.Core.List.{List}
use lib.IntN.{ℤ, ◌+ℤ◌, ◌-ℤ◌, pos}
use lib.ListN.{length, set, length-set}
use lib.Seq.{ext_get_or, get_or-drop, get_or-set_same, get_or-set_other}
use borrow.Author.Count.{below_more}
use Rattle.std.proofs.Common.{◌≢◌}
use Rattle.std.proofs.lemmas.Bool.{cases_lt}
use Rattle.range.specs.Below.{filled, Fills}
use Rattle.range.specs.Signed.{entry}
use Rattle.range.proofs.Filled.{filled_at, drop_filled, length_filled}
use Rattle.spectrum.proofs.Blocks.{block_div, block_le}
use Rattle.rules.specs.Shape.{greatest_m}
use Rattle.transform.specs.Butterflies.{butterfly, Stride, Start}

-- a stride that is none of the lesser ones
pub stride_last : (s : ℕ) → Stride s → s ≢ 1 → s ≢ 2 → s ≢ 4 → s ≢ 8 → s ≡ 16
stride_last s t = rw t.at (power_last t.digit t.below)
  where
    power_last : (d : ℕ) → d < greatest_m → 2 ^ d ≢ 1 → 2 ^ d ≢ 2 → 2 ^ d ≢ 4 → 2 ^ d ≢ 8 → 2 ^ d ≡ 16
    power_last zero l e _ _ _ = absurd (e refl)
    power_last (suc zero) l _ e _ _ = absurd (e refl)
    power_last (suc (suc zero)) l _ _ e _ = absurd (e refl)
    power_last (suc (suc (suc zero))) l _ _ _ e = absurd (e refl)
    power_last (suc (suc (suc (suc zero)))) l _ _ _ _ = refl
    power_last (suc (suc (suc (suc (suc d))))) l _ _ _ _ = absurd (omega (arith, l))

pub start_zero : (s : ℕ) → Start s 0
start_zero s = record { number = 0; at = sym (zero-mul (2 * s)) }

pub start_next : (s p : ℕ) → Start s p → Start s (p + s + s)
start_next s p b = record {
  number = b.number + 1;
  at = rw add-one (omega (arith, suc-mul b.number (2 * s), b.at));
}

pub start_le : (s p n : ℕ) → Start s p → Start s n → p < n → p + s + s ≤ n
start_le s p n b e h =
    let l : b.number * (2 * s) < e.number * (2 * s) = omega (arith, b.at, e.at) in
    omega (arith, block_le s b.number e.number l, b.at, e.at)

module _ (s p : ℕ) (b : Start s p) (y : ℕ → ℤ) (i : ℕ) where
  place : (j : ℕ) → p ≤ j → j < p + s → j / s ≡ b.number + b.number
  place j l h = block_div s b.number (j - p) j (omega arith) (omega (arith, b.at))

  pub butterfly_first : p ≤ i → i < p + s → butterfly s y i ≡ y i +ℤ y (i + s)
  unfolding butterfly
  butterfly_first l h =
      let d : i / s % 2 ≡ 0 = omega (arith, place i l h) in
      rw d

  -- the place of the second half whose partner is i
  pub butterfly_second : p ≤ i → i < p + s → butterfly s y (i + s) ≡ y i -ℤ y (i + s)
  unfolding butterfly
  butterfly_second l h =
      let q : (i + s) / s ≡ i / s + 1 = add-div_right i (omega arith) in
      let d : (i + s) / s % 2 ≡ 1 = omega (arith, place i l h, q) in
      let e : i + s - s ≡ i = omega arith in
      rw (d, e)

-- the places from p on and from p + s on, up to i and to i + s, are written as f says; the others outside the block
-- stay
pub record Halved (f : ℕ → ℤ) (d : List ℤ) (s p : ℕ) (d' : List ℤ) (i : ℕ) : Type 0 where
  pub sized : length d' ≡ length d
  pub before : (j : ℕ) → j < p → entry d' j ≡ entry d j
  pub first : (j : ℕ) → j < i → p ≤ j → entry d' j ≡ f j
  pub second : (j : ℕ) → j < i → p ≤ j → entry d' (j + s) ≡ f (j + s)
  pub behind : (j : ℕ) → p + s + s ≤ j → entry d' j ≡ entry d j

pub halved_none : (f : ℕ → ℤ) (d : List ℤ) (s p : ℕ) → Halved f d s p d p
halved_none f d s p = record {
  sized = refl;
  before = λ j l. refl;
  first = λ j l h. absurd (omega arith);
  second = λ j l h. absurd (omega arith);
  behind = λ j l. refl;
}

module _ {f : ℕ → ℤ} {d : List ℤ} {s p : ℕ} {d' : List ℤ} {i : ℕ} (w : Halved f d s p d' i) where
  pub halved_turn : {x y : ℤ} → p ≤ i → i < p + s → p + s + s ≤ length d → x ≡ f i → y ≡ f (i + s) →
      Halved f d s p (set (set d' i x) (i + s) y) (i + 1)
  halved_turn {x} {y} l b h e g =
      let other : (j : ℕ) → j ≢ i → j ≢ i + s → entry (set (set d' i x) (i + s) y) j ≡ entry d' j = λ j a c.
      get_or-set_other (set d' i x) (i + s) j y (pos 0) c ∙ get_or-set_other d' i j x (pos 0) a in
      record {
        sized = length-set (set d' i x) (i + s) y ∙ length-set d' i x ∙ w.sized;
        before = λ j q. other j (omega arith) (omega arith) ∙ w.before j q;
        first =
            below_more _ i (λ j q m. other j (omega arith) (omega arith) ∙ w.first j q m)
            (λ _. get_or-set_other (set d' i x) (i + s) i y (pos 0) (omega arith)
            ∙ get_or-set_same d' i x (pos 0) (omega (arith, w.sized)) ∙ e);
        second =
            below_more _ i (λ j q m. other (j + s) (omega arith) (omega arith) ∙ w.second j q m)
            (λ _. get_or-set_same (set d' i x) (i + s) y (pos 0) (omega (arith, w.sized, length-set d' i x)) ∙ g);
        behind = λ j q. other j (omega arith) (omega arith) ∙ w.behind j q;
      }

  -- what stands behind the front that is filled
  behind_filled : (n : ℕ) (l : List ℤ) (j : ℕ) → n ≤ j → entry (filled n f l) j ≡ entry l j
  behind_filled n l j h =
      let q : n + (j - n) ≡ j = omega arith in
      rw q at (sym (get_or-drop n (filled n f l) (j - n) (pos 0))
      ∙ ap (λ (xs : List ℤ). entry xs (j - n)) (drop_filled n f l) ∙ get_or-drop n l (j - n) (pos 0))

  pub halved_all : p + s + s ≤ length d → p + s ≤ i → Fills f d p d' (p + s + s)
  halved_all h b = record {
    sized = w.sized;
    on = λ l q e. ext_get_or (pos 0) d' (filled (p + s + s) f l)
        (w.sized ∙ q ∙ sym (length_filled (p + s + s) f l (omega arith)))
        (λ j _. at l e j);
  }
    where
      at : (l : List ℤ) → d ≡ filled p f l → (j : ℕ) → entry d' j ≡ entry (filled (p + s + s) f l) j
      at l e j =
          let all : j < p + s + s → f j ≡ entry (filled (p + s + s) f l) j = λ q.
          sym (filled_at (p + s + s) f l j (pos 0) q) in
          let was : entry d j ≡ entry (filled p f l) j = ap (λ (xs : List ℤ). entry xs j) e in
          ⊎_elim (λ q. w.before j q ∙ was ∙ filled_at p f l j (pos 0) q ∙ all (omega arith))
          (λ q. ⊎_elim (λ r. w.first j (omega arith) q ∙ all (omega arith))
          (λ r. ⊎_elim (λ t.
          let back : j - s + s ≡ j = omega arith in
          rw back at (w.second (j - s) (omega arith) (omega arith)) ∙ all t)
          (λ t. w.behind j t ∙ was ∙ behind_filled p l j q ∙ sym (behind_filled (p + s + s) l j t))
          (cases_lt j (p + s + s)))
          (cases_lt j (p + s)))
          (cases_lt j p)
