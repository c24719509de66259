-- Bounds that a shape in range gives.
-- In order: the ranges of h and m; w; the bits of a message number; the phases, their powers and half of them, the
-- carriers, the paths in use, the messages.
-- Assumes nothing.
use Prim.Native.Nat.{ℕ, zero, suc, ◌+◌, ◌-◌, ◌*◌, ◌/◌, ◌^◌, ◌≤◌, ◌<◌}
use native.Mathlib.Nat.{mul-le-mul, mul-zero, mul-suc, pow-zero, pow-suc, pow-succ'}
use native.Mathlib.Decide.{dec_lt}
use native.Mathlib.Omega.{arith}
use mathlib.Core.Path.{◌≡◌, refl, sym, ◌∙◌, ap, subst}
use mathlib.Core.Bool.{Bool, true, false, ◌&&◌}
use lib.Dec.{T, leb, leb→le, lit≤}
use lib.ListN.{length, get_or, get_or-eq_default}
use lib.Pow.{pow_mono, pow-add}
use borrow.Author.Tests.{leb-true, le-leb}
use Rattle.range.specs.Below.{all_below}
use Rattle.range.proofs.Tests.{and_left, and_right, and_of, all_below_at}
use Rattle.rules.specs.Shape.{greatest_h, greatest_m, path_bits, in_h, in_m, in_shape, phases, carriers, paths_in_use}
use Rattle.rules.specs.Shape.{path_widths, message_bits, messages, half_turn}
use Rattle.rules.specs.Shape.{most_path_bits, most_coefficient_bits, most_bits}

pub record InRange (h m : ℕ) : Type 0 where
  pub h_least : 1 ≤ h
  pub h_most : h ≤ greatest_h
  pub m_least : 2 ≤ m
  pub m_most : m ≤ greatest_m

-- of m alone
pub in_m_range : (m : ℕ) → in_m m ≡ true → (2 ≤ m) × (m ≤ greatest_m)
in_m_range m e = (
  leb-true 2 m (and_left (leb 2 m) (leb m greatest_m) e),
  leb-true m greatest_m (and_right (leb 2 m) (leb m greatest_m) e),
)

pub in_shape_range : (h m : ℕ) → in_shape h m ≡ true → InRange h m
in_shape_range h m e =
    let a : in_h h ≡ true = and_left (in_h h) (in_m m) e in
    let b : in_m m ≡ true = and_right (in_h h) (in_m m) e in
    record {
      h_least = leb-true 1 h (and_left (leb 1 h) (leb h greatest_h) a);
      h_most = leb-true h greatest_h (and_right (leb 1 h) (leb h greatest_h) a);
      m_least = (in_m_range m b).0;
      m_most = (in_m_range m b).1;
    }

pub in_m_of : (m : ℕ) → 2 ≤ m → m ≤ greatest_m → T (in_m m)
in_m_of m least most =
    subst T (sym (and_of (leb 2 m) (leb m greatest_m) (le-leb 2 m least) (le-leb m greatest_m most))) tt

pub range_in_m : (h m : ℕ) → InRange h m → T (in_m m)
range_in_m h m r = in_m_of m r.m_least r.m_most

T_left : (a b : Bool) → T (a && b) → T a
T_left true b t = tt
T_left false b t = t

T_right : (a b : Bool) → T (a && b) → T b
T_right true b t = t
T_right false b t = absurd t

pub in_m_least : (m : ℕ) → T (in_m m) → 2 ≤ m
in_m_least m t = leb→le 2 m (T_left (leb 2 m) (leb m greatest_m) t)

pub in_m_le : (m : ℕ) → T (in_m m) → m ≤ greatest_m
in_m_le m t = leb→le m greatest_m (T_right (leb 2 m) (leb m greatest_m) t)

-- no entry of the table is above that of the greatest m
entry_test : all_below (length path_widths) (λ i. leb (get_or path_widths i 0) most_path_bits) ≡ true
unfolding all_below
entry_test = refl

entry_le : (i : ℕ) → get_or path_widths i 0 ≤ most_path_bits
entry_le i = at (dec_lt i (length path_widths))
  where
    at : Dec (i < length path_widths) → get_or path_widths i 0 ≤ most_path_bits
    at (yes l) = leb-true _ most_path_bits (all_below_at (length path_widths) _ entry_test i l)
    at (no n) =
        let b : length path_widths ≤ i = omega arith in
        rw (get_or-eq_default path_widths 0 b) (lit≤ tt)

pub path_bits_le : (m : ℕ) → path_bits m ≤ most_path_bits
unfolding path_bits
path_bits_le m = entry_le (m - 2)

pub coefficient_bits_le : (h m : ℕ) → InRange h m → h * (m + 1) ≤ most_coefficient_bits
coefficient_bits_le h m r =
    mul-le-mul {n₁ = h} {m₁ = m + 1} {n₂ = greatest_h} {m₂ = greatest_m + 1} r.h_most (omega (arith, r.m_most))

pub message_bits_le : (h m : ℕ) → InRange h m → message_bits h m ≤ most_bits
message_bits_le h m r = omega (arith, path_bits_le m, coefficient_bits_le h m r)

pub phases_pow : (h j : ℕ) → phases h ^ j ≡ 2 ^ (h * j)
phases_pow h zero = rw (pow-zero, mul-zero)
phases_pow h (suc j) = rw (pow-suc, mul-suc, phases_pow h j) (sym (pow-add 2 (h * j) h))

-- 2^h is twice 2^(h-1)
pub phases_half : (h : ℕ) → 1 ≤ h → phases h ≡ 2 * half_turn h
phases_half h b =
    let e : h ≡ suc (h - 1) = omega arith in
    ap (λ (n : ℕ). 2 ^ n) e ∙ pow-succ' 2 (h - 1)

pub phases_by_two : (h : ℕ) → 1 ≤ h → phases h / 2 ≡ half_turn h
phases_by_two h one = omega (arith, phases_half h one)

pub phases_least : (h m : ℕ) → InRange h m → 2 ≤ phases h
phases_least h m r = pow_mono {i = 1} {j = h} r.h_least

pub phases_most : (h m : ℕ) → InRange h m → phases h ≤ phases greatest_h
phases_most h m r = pow_mono r.h_most

pub carriers_most : (h m : ℕ) → InRange h m → carriers m ≤ carriers greatest_m
carriers_most h m r = pow_mono r.m_most

pub paths_in_use_most : (m : ℕ) → paths_in_use m ≤ 2 ^ most_path_bits
paths_in_use_most m = pow_mono {i = path_bits m} {j = most_path_bits} (path_bits_le m)

pub messages_most : (h m : ℕ) → InRange h m → messages h m ≤ 2 ^ most_bits
messages_most h m r = pow_mono {i = message_bits h m} {j = most_bits} (message_bits_le h m r)
