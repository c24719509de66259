-- What the standing says of the labels gone through: the best, the earliest that has it, and the second best. In order:
-- one more label, in the three cases of better; the first label; after all of them;
-- the standing is rules' Best and Tied, so that going through the labels in their order is enough.
-- Not here: stretches of labels (Lead).  Assumes nothing.
use Prim.Native.Nat.{ℕ, zero, suc, ◌≤◌, ◌<◌, zero-le}
use native.Mathlib.Nat.{zero-add, le_refl, not-suc-le-zero}
use native.Mathlib.Decide.{dec_le, ℕ_discrete}
use native.Mathlib.Omega.{arith}
use mathlib.Core.Path.{◌≡◌, refl, sym, ◌∙◌, subst}
use mathlib.Core.Bool.{true}
use mathlib.Core.Logic.{◌≢◌, ◌⊎◌, inl, inr}
use borrow.Author.Tests.{eqb-true, eq-eqb}
use Rattle.range.proofs.Tests.{below_suc}
use Rattle.rules.specs.Best.{Best, Tied}
use Rattle.standing.specs.declared.Standing.{Standing}
use Rattle.standing.specs.Lead.{better, nobody, lead_from, lead, tied_of}
use Rattle.standing.proofs.Passing.{better_kept, better_second, better_best}

pub record Leading (n : ℕ) (f : ℕ → ℕ) (st : Standing) : Type 0 where
  pub inside : st.label < n
  pub attained : st.best ≡ f st.label
  pub most : (k : ℕ) → k < n → f k ≤ st.best
  pub earliest : (k : ℕ) → k < st.label → f k < st.best
  pub others : (k : ℕ) → k < n → k ≢ st.label → f k ≤ st.second
  pub ordered : st.second ≤ st.best
  pub runner : (st.second ≡ 0) ⊎ ((k : ℕ) × (k < n) × (k ≢ st.label) × (f k ≡ st.second))

module _ (n : ℕ) (f : ℕ → ℕ) (st : Standing) (p : Leading n f st) where
  leading_kept : f n ≤ st.second → Leading (suc n) f st
  leading_kept h = record {
    inside = omega (arith, p.inside);
    attained = p.attained;
    most = below_suc (λ k. f k ≤ st.best) n p.most (omega (arith, p.ordered));
    earliest = p.earliest;
    others = below_suc (λ k. k ≢ st.label → f k ≤ st.second) n p.others (λ _. h);
    ordered = p.ordered;
    runner = further p.runner;
  }
    where
      further : (st.second ≡ 0) ⊎ ((k : ℕ) × (k < n) × (k ≢ st.label) × (f k ≡ st.second)) →
          (st.second ≡ 0) ⊎ ((k : ℕ) × (k < suc n) × (k ≢ st.label) × (f k ≡ st.second))
      further (inl z) = inl z
      further (inr (k, l, d, e)) = inr (k, omega arith, d, e)

  leading_second : st.second < f n → f n ≤ st.best →
      Leading (suc n) f (record { best = st.best; second = f n; label = st.label })
  leading_second h b = record {
    inside = omega (arith, p.inside);
    attained = p.attained;
    most = below_suc (λ k. f k ≤ st.best) n p.most b;
    earliest = p.earliest;
    others = below_suc (λ k. k ≢ st.label → f k ≤ f n) n (λ k l d. omega (arith, p.others k l d))
        (λ _. le_refl (f n));
    ordered = b;
    runner = inr (n, le_refl (suc n), (λ e. omega (arith, p.inside)), refl);
  }

  leading_best : st.best < f n → Leading (suc n) f (record { best = f n; second = st.best; label = n })
  leading_best h = record {
    inside = le_refl (suc n);
    attained = refl;
    most = below_suc (λ k. f k ≤ f n) n (λ k l. omega (arith, p.most k l)) (le_refl (f n));
    earliest = λ k l. omega (arith, p.most k l);
    others = λ k l d. p.most k (omega arith);
    ordered = omega arith;
    runner = inr (st.label, omega (arith, p.inside), (λ e. omega (arith, p.inside)), sym p.attained);
  }

  leading_better : Leading (suc n) f (better st (f n) n)
  leading_better = at (dec_le (f n) st.second) (dec_le (f n) st.best)
    where
      at : Dec (f n ≤ st.second) → Dec (f n ≤ st.best) → Leading (suc n) f (better st (f n) n)
      at (yes h) _ = subst (Leading (suc n) f) (sym (better_kept st (f n) n h)) (leading_kept h)
      at (no h) (yes b) =
          let a : st.second < f n = omega arith in
          subst (Leading (suc n) f) (sym (better_second st (f n) n a b)) (leading_second a b)
      at (no h) (no b) =
          let a : st.second < f n = omega arith in
          let d : st.best < f n = omega arith in
          subst (Leading (suc n) f) (sym (better_best st (f n) n a d)) (leading_best d)

-- the first label, whether its value is zero or not
first_zero : (f : ℕ → ℕ) → f 0 ≤ 0 → Leading 1 f nobody
first_zero f h = record {
  inside = le_refl 1;
  attained = omega arith;
  most = below_suc (λ k. f k ≤ 0) 0 (λ k l. absurd (not-suc-le-zero l)) h;
  earliest = λ k l. absurd (not-suc-le-zero l);
  others = λ k l d. absurd (omega arith);
  ordered = le_refl 0;
  runner = inl refl;
}

first_above : (f : ℕ → ℕ) → Leading 1 f (record { best = f 0; second = 0; label = 0 })
first_above f = record {
  inside = le_refl 1;
  attained = refl;
  most = below_suc (λ k. f k ≤ f 0) 0 (λ k l. absurd (not-suc-le-zero l)) (le_refl (f 0));
  earliest = λ k l. absurd (not-suc-le-zero l);
  others = λ k l d. absurd (omega arith);
  ordered = zero-le;
  runner = inl refl;
}

leading_first : (f : ℕ → ℕ) → Leading 1 f (better nobody (f 0) 0)
leading_first f = at (dec_le (f 0) 0)
  where
    at : Dec (f 0 ≤ 0) → Leading 1 f (better nobody (f 0) 0)
    at (yes h) = subst (Leading 1 f) (sym (better_kept nobody (f 0) 0 h)) (first_zero f h)
    at (no h) =
        let a : 0 < f 0 = omega arith in
        subst (Leading 1 f) (sym (better_best nobody (f 0) 0 a a)) (first_above f)

lead_leading : (f : ℕ → ℕ) (n : ℕ) → 1 ≤ n → Leading n f (lead f n)
unfolding lead lead_from
lead_leading f zero one = absurd (not-suc-le-zero one)
lead_leading f (suc zero) one = leading_first f
lead_leading f (suc (suc n)) one =
    rw (zero-add (suc n))
    (leading_better (suc n) f (lead_from 0 f (suc n) nobody) (lead_leading f (suc n) (omega arith)))

module _ (n : ℕ) (f : ℕ → ℕ) (st : Standing) (p : Leading n f st) where
  -- where the second best is as good, another label has the best value
  leading_another : 2 ≤ n → st.best ≡ st.second → (k : ℕ) × (k < n) × (k ≢ st.label) × (f k ≡ st.best)
  leading_another two e = at p.runner (ℕ_discrete st.label 0)
    where
      at : (st.second ≡ 0) ⊎ ((k : ℕ) × (k < n) × (k ≢ st.label) × (f k ≡ st.second)) → Dec (st.label ≡ 0) →
          (k : ℕ) × (k < n) × (k ≢ st.label) × (f k ≡ st.best)
      at (inr (k, l, d, q)) _ = (k, l, d, q ∙ sym e)
      at (inl z) (yes q) = (1, two, (λ r. omega arith), omega (arith, p.most 1 two))
      at (inl z) (no q) = (0, omega arith, (λ r. q (sym r)), omega (arith, p.most 0 (omega arith)))

  -- and where another has it, the second best is as good
  leading_tied : (k : ℕ) × (k < n) × (k ≢ st.label) × (f k ≡ st.best) → tied_of st ≡ true
  leading_tied (k, l, d, e) =
      eq-eqb st.best st.second (omega (arith, p.others k l d, p.ordered))

  leading_is_best : Best n ◌≤◌ f st.label st.best
  leading_is_best = record {
    inside = p.inside;
    attained = p.attained;
    best = p.most;
    earliest = λ k l e. omega (arith, p.earliest k l);
  }

  leading_is_tied : 2 ≤ n → Tied n f st.label st.best (tied_of st)
  leading_is_tied two = (λ t. leading_another two (eqb-true st.best st.second t), leading_tied)

pub lead_best : (f : ℕ → ℕ) (n : ℕ) → 1 ≤ n → Best n ◌≤◌ f (lead f n).label (lead f n).best
lead_best f n one = leading_is_best n f (lead f n) (lead_leading f n one)

pub lead_tied : (f : ℕ → ℕ) (n : ℕ) → 2 ≤ n → Tied n f (lead f n).label (lead f n).best (tied_of (lead f n))
lead_tied f n two = leading_is_tied n f (lead f n) (lead_leading f n (omega arith)) two
