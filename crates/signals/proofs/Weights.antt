-- What a weight of differences must satisfy, so that the weight of the difference of two words is a distance: 01 "What
-- the receiver hears". Both of 01's weights do.
-- Defines:  Weight q ω        ω weighs a difference modulo q
--           differs d         1 where a difference is not 0
--           weigh ω q n a b   the weight of the difference of two words of n symbols
-- In order: Lee's weight; differing places; both of 01's distances weigh a difference; the laws of a distance.
-- Not here: rules' distance (Metric), differences (rules' Differences).  Assumes nothing.
use Prim.Native.Nat.{ℕ, zero, suc, ◌+◌, ◌-◌, ◌%◌, ◌≤◌, ◌<◌, zero-le, suc-le-suc, min}
use native.Mathlib.Nat.{mod-lt, mod-eq_of_lt, mod_self, add-mod, mod-eq-sub-mod, zero-mod}
use native.Mathlib.Decide.{dec_lt}
use native.Mathlib.Omega.{arith}
use mathlib.Core.Path.{◌≡◌, refl, sym, ◌∙◌, ap}
use mathlib.Core.Bool.{Bool, true, false, not}
use lib.Dec.{eqb}
use lib.Pow.{pow_pos}
use borrow.Author.Tests.{eqb-true, eqb-false, ne_eqb}
use Rattle.range.specs.Below.{one_if, sum_below, count_below}
use Rattle.range.proofs.Sums.{sum_below_cong, sum_below_zero, sum_below_sum, sum_below_mono, one_if_le}
use Rattle.rules.specs.Shape.{phases}
use Rattle.rules.specs.Pair.{minus}
use Rattle.rules.specs.Distance.{hamming, lee_of, lee}
use Rattle.rules.proofs.Differences.{minus_lt, minus_self, eq_of_minus, minus_through, minus_back}

pub record Weight (q : ℕ) (ω : ℕ → ℕ) : Type 0 where
  pub none : ω 0 ≡ 0
  pub sum : (a b : ℕ) → ω ((a + b) % q) ≤ ω (a % q) + ω (b % q)
  -- the way back weighs the same
  pub back : (a : ℕ) → a < q → ω ((q - a) % q) ≡ ω a

abbrev pub differs : ℕ → ℕ
differs d = one_if (not (eqb d 0))

unfoldable pub weigh : (ℕ → ℕ) → ℕ → ℕ → (ℕ → ℕ) → (ℕ → ℕ) → ℕ
weigh ω q n a b = sum_below n (λ i. ω (minus q (a i) (b i)))

-- the shorter way round: of a sum that passes q, and of a sum of any two remainders
shorter_past : (q r s d : ℕ) → r < q → s < q → d + q ≡ r + s → min d (q - d) ≤ min r (q - r) + min s (q - s)
shorter_past q r s d p l e = omega arith

shorter_sum : (q r s : ℕ) → r < q → s < q →
    min ((r + s) % q) (q - (r + s) % q) ≤ min r (q - r) + min s (q - s)
shorter_sum q r s p l = at (dec_lt (r + s) q)
  where
    at : Dec (r + s < q) → min ((r + s) % q) (q - (r + s) % q) ≤ min r (q - r) + min s (q - s)
    at (yes b) = rw (mod-eq_of_lt b) (omega arith)
    at (no n) =
        let e : (r + s) % q ≡ r + s - q = mod-eq-sub-mod (omega arith) ∙ mod-eq_of_lt (omega arith) in
        shorter_past q r s ((r + s) % q) p l (omega arith)

shorter_back : (q a : ℕ) → a < q → min ((q - a) % q) (q - (q - a) % q) ≡ min a (q - a)
shorter_back q zero p = let e : q - 0 ≡ q = omega arith in rw (e, mod_self q) (omega arith)
shorter_back q (suc a) p = rw (mod-eq_of_lt {n = q - suc a} {m = q} (omega arith)) (omega arith)

pub lee_weight : (h : ℕ) → Weight (phases h) (lee_of h)
unfolding lee_of
lee_weight h = record {
  none = omega arith;
  sum = λ a b. rw (add-mod a b (phases h))
      (shorter_sum (phases h) (a % phases h) (b % phases h) (mod-lt a (pow_pos h)) (mod-lt b (pow_pos h)));
  back = λ a p. shorter_back (phases h) a p;
}

pub differs_one : (d : ℕ) → 0 < d → differs d ≡ 1
differs_one d p = ap (λ t. one_if (not t)) (ne_eqb d 0 (λ e. omega (arith, e)))

differs_sum : (r s d : ℕ) → (r ≡ 0 → s ≡ 0 → d ≡ 0) → differs d ≤ differs r + differs s
differs_sum zero zero d e = rw (e refl refl) zero-le
differs_sum zero (suc s) d e = rw (differs_one (suc s) (suc-le-suc zero-le)) (one_if_le (not (eqb d 0)))
differs_sum (suc r) s d e =
    omega (arith, differs_one (suc r) (suc-le-suc zero-le), one_if_le (not (eqb d 0)))

differs_back : (q a : ℕ) → a < q → differs ((q - a) % q) ≡ differs a
differs_back q zero p = let e : q - 0 ≡ q = omega arith in rw (e, mod_self q)
differs_back q (suc a) p =
    rw (mod-eq_of_lt {n = q - suc a} {m = q} (omega arith))
    (differs_one (q - suc a) (omega arith) ∙ sym (differs_one (suc a) (suc-le-suc zero-le)))

pub differs_weight : (q : ℕ) → Weight q differs
differs_weight q = record {
  none = refl;
  sum = λ a b. differs_sum (a % q) (b % q) ((a + b) % q) (λ p r. add-mod a b q ∙ rw (p, r) (zero-mod q));
  back = λ a p. differs_back q a p;
}

-- places that differ are places whose difference is not 0
differ_differs : (q a b : ℕ) → a < q → b < q → one_if (not (eqb a b)) ≡ differs (minus q a b)
differ_differs q a b p r = by (eqb a b) refl
  where
    by : (t : Bool) → eqb a b ≡ t → one_if (not t) ≡ differs (minus q a b)
    by true e = rw (eqb-true a b e, minus_self q b r)
    by false e = ap (λ t. one_if (not t))
        (sym (ne_eqb (minus q a b) 0 (λ z. eqb-false a b e (eq_of_minus q a b p r z))))

pub hamming_weigh : (q n : ℕ) (a b : ℕ → ℕ) → ((i : ℕ) → i < n → a i < q) → ((i : ℕ) → i < n → b i < q) →
    hamming n a b ≡ weigh differs q n a b
unfolding hamming weigh count_below
hamming_weigh q n a b p r = sum_below_cong n _ _ (λ i l. differ_differs q (a i) (b i) (p i l) (r i l))

pub lee_weigh : (h n : ℕ) (a b : ℕ → ℕ) → lee h n a b ≡ weigh (lee_of h) (phases h) n a b
unfolding lee weigh
lee_weigh h n a b = refl

module _ (q : ℕ) (ω : ℕ → ℕ) (weight : Weight q ω) where
  pub weight_back : (a b : ℕ) → a < q → b < q → ω (minus q a b) ≡ ω (minus q b a)
  weight_back a b p r = sym (ap ω (minus_back q a b p r) ∙ weight.back (minus q a b) (minus_lt q a b (omega arith)))

  weight_through : (a b c : ℕ) → b < q → ω (minus q a c) ≤ ω (minus q a b) + ω (minus q b c)
  weight_through a b c p =
      let z : 0 < q = omega arith in
      rw (mod-eq_of_lt (minus_lt q a b z), mod-eq_of_lt (minus_lt q b c z), ← minus_through q a b c p)
      at (weight.sum (minus q a b) (minus q b c))

  pub weigh_zero_of_agree : (n : ℕ) (a b : ℕ → ℕ) → ((i : ℕ) → i < n → b i < q) → ((i : ℕ) → i < n → a i ≡ b i) →
      weigh ω q n a b ≡ 0
  unfolding weigh
  weigh_zero_of_agree n a b p e =
      sum_below_zero n _ (λ i l. rw (e i l, minus_self q (b i) (p i l)) weight.none)

  pub weigh_comm : (n : ℕ) (a b : ℕ → ℕ) → ((i : ℕ) → i < n → a i < q) → ((i : ℕ) → i < n → b i < q) →
      weigh ω q n a b ≡ weigh ω q n b a
  unfolding weigh
  weigh_comm n a b p r = sum_below_cong n _ _ (λ i l. weight_back (a i) (b i) (p i l) (r i l))

  pub weigh_triangle : (n : ℕ) (a b c : ℕ → ℕ) → ((i : ℕ) → i < n → b i < q) →
      weigh ω q n a c ≤ weigh ω q n a b + weigh ω q n b c
  unfolding weigh
  weigh_triangle n a b c p =
      rw (sum_below_sum n (λ i. ω (minus q (a i) (b i))) (λ i. ω (minus q (b i) (c i))))
      (sum_below_mono n _ _ (λ i l. weight_through (a i) (b i) (c i) (p i l)))
