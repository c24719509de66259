-- What the areas hold at the end, and the part: rules' Areas. In order: lengths; the part as the front of an area, in
-- which area it stands; what the last stage leaves is what the rules say; the promise of `run`, refused and not.
-- Not here: the stages before the last (Stages); that only one outcome keeps a promise (Unique).  Assumes nothing.
use Prim.Native.Nat.{ℕ, zero, suc, ◌+◌, ◌-◌, ◌*◌, ◌/◌, ◌%◌, ◌≤◌}
use native.Mathlib.Omega.{arith}
use mathlib.Core.Path.{◌≡◌, refl, sym, ◌∙◌, ap}
use mathlib.Core.Logic.{◌≢◌}
use mathlib.Core.Bool.{Bool, true, false, cond, false≢true}
use mathlib.Core.List.{List, []}
use lib.IntN.{ℤ}
use lib.ListN.{length, take}
use lib.Pow.{pow_pos}
use borrow.Author.Tests.{eq-eqb, ne_eqb}
use Rattle.range.specs.Below.{list_below, filled}
use Rattle.range.specs.Signed.{entry}
use Rattle.range.proofs.Bits.{bit_cases}
use Rattle.range.proofs.Lists.{length_list_below}
use Rattle.range.proofs.Filled.{length_filled, take_filled, filled_cong}
use Rattle.rules.specs.Shape.{carriers}
use Rattle.rules.specs.Spectrum.{spectrum_at, stages}
use Rattle.rules.specs.Outcome.{Outcome, gives, refuses, allowed, leaves}
use Rattle.rules.specs.Refusal.{transform_refusal}
use Rattle.rules.specs.Areas.{in_first, first_after, second_after, part_of, part_length, part_in_first}
use Rattle.rules.proofs.Range.{in_m_range}
use Rattle.rules.proofs.RefusalLaws.{transform_taken}
use Rattle.spectrum.proofs.Entries.{stages_spectrum}
use Rattle.transform.specs.Transformed.{Ran}
use Rattle.transform.specs.Butterflies.{first_at, second_at}

module _ (m : ℕ) (a b : List ℤ) where
  abbrev outcome : Outcome (Unit {0})
  outcome = transform_refusal m a (length b)

  -- what ends in the first area and in the second, by the rules, where t says whether the last stage writes the first
  abbrev in_the_first : Bool → ℕ → ℤ
  in_the_first t = cond t (spectrum_at m (entry a)) (stages m (m - 1) (entry a))

  abbrev in_the_second : Bool → ℕ → ℤ
  in_the_second t = cond t (stages m (m - 1) (entry a)) (spectrum_at m (entry a))

  -- an area that has N entries where nothing is refused keeps its length
  length_leaves : (area : List ℤ) (f : ℕ → ℤ) → (outcome ≡ allowed → carriers m ≤ length area) →
      (o : Outcome (Unit {0})) → outcome ≡ o → length (leaves o area (filled (carriers m) f area)) ≡ length area
  length_leaves area f h (gives u) e = length_filled (carriers m) f area (h e)
  length_leaves area f h (refuses k v) e = refl

  pub length_first_after : length (first_after m a b) ≡ length a
  unfolding first_after
  length_first_after = length_leaves a (in_the_first (in_first m)) (λ e. (transform_taken m a b e).first) outcome refl

  pub length_second_after : length (second_after m a b) ≡ length b
  unfolding second_after
  length_second_after =
      length_leaves b (in_the_second (in_first m)) (λ e. (transform_taken m a b e).second) outcome refl

  pub length_part_of : length (part_of m a b) ≡ part_length m a b
  unfolding part_of part_length
  length_part_of = go outcome
    where
      go : (o : Outcome (Unit {0})) →
          length (leaves o [] (list_below (carriers m) (spectrum_at m (entry a)))) ≡ leaves o 0 (carriers m)
      go (gives u) = length_list_below (carriers m) (spectrum_at m (entry a))
      go (refuses k v) = refl

  -- the part is the front of the area that it stands in
  pub part_of_first : part_in_first m a b ≡ true → part_of m a b ≡ take (part_length m a b) (first_after m a b)
  unfolding part_in_first part_of part_length first_after
  part_of_first = go outcome (in_first m)
    where
      go : (o : Outcome (Unit {0})) (t : Bool) → leaves o true t ≡ true →
          leaves o [] (list_below (carriers m) (spectrum_at m (entry a)))
          ≡ take (leaves o 0 (carriers m)) (leaves o a (filled (carriers m) (in_the_first t) a))
      go (gives u) true e = sym (take_filled (carriers m) (spectrum_at m (entry a)) a)
      go (gives u) false e = absurd (false≢true e)
      go (refuses k v) t e = refl

  pub part_of_second : part_in_first m a b ≡ false → part_of m a b ≡ take (part_length m a b) (second_after m a b)
  unfolding part_in_first part_of part_length second_after
  part_of_second = go outcome (in_first m)
    where
      go : (o : Outcome (Unit {0})) (t : Bool) → leaves o true t ≡ false →
          leaves o [] (list_below (carriers m) (spectrum_at m (entry a)))
          ≡ take (leaves o 0 (carriers m)) (leaves o b (filled (carriers m) (in_the_second t) b))
      go (gives u) true e = absurd (false≢true (sym e))
      go (gives u) false e = sym (take_filled (carriers m) (spectrum_at m (entry a)) b)
      go (refuses k v) t e = absurd (false≢true (sym e))

  -- which area that is
  pub part_in_first_none : part_length m a b ≡ 0 → part_in_first m a b ≡ true
  unfolding part_length part_in_first
  part_in_first_none = go outcome
    where
      go : (o : Outcome (Unit {0})) → leaves o 0 (carriers m) ≡ 0 → leaves o true (in_first m) ≡ true
      go (gives u) e = absurd (omega (arith, e, pow_pos m))
      go (refuses k v) e = refl

  pub part_in_first_even : m % 2 ≡ 0 → part_in_first m a b ≡ true
  unfolding part_in_first
  part_in_first_even h = go outcome
    where
      go : (o : Outcome (Unit {0})) → leaves o true (in_first m) ≡ true
      go (gives u) = eq-eqb (m % 2) 0 h
      go (refuses k v) = refl

  pub part_in_first_odd : part_length m a b ≢ 0 → m % 2 ≢ 0 → part_in_first m a b ≡ false
  unfolding part_length part_in_first
  part_in_first_odd = go outcome
    where
      go : (o : Outcome (Unit {0})) → leaves o 0 (carriers m) ≢ 0 → m % 2 ≢ 0 → leaves o true (in_first m) ≡ false
      go (gives u) n h = ne_eqb (m % 2) 0 h
      go (refuses k v) n h = absurd (n refl)

  -- after m stages the areas hold what the rules say
  spectrum_is : (j : ℕ) (area : List ℤ) → j ≡ m →
      filled (carriers m) (stages m j (entry a)) area ≡ filled (carriers m) (spectrum_at m (entry a)) area
  spectrum_is j area e =
      filled_cong (carriers m) _ _ area (λ i l. rw e (stages_spectrum m (entry a) i l))

  before_is : (j : ℕ) (area : List ℤ) → j ≡ m - 1 →
      filled (carriers m) (stages m j (entry a)) area ≡ filled (carriers m) (stages m (m - 1) (entry a)) area
  before_is j area e = ap (λ (k : ℕ). filled (carriers m) (stages m k (entry a)) area) e

  first_at_is : first_at m m a ≡ filled (carriers m) (in_the_first (in_first m)) a
  unfolding first_at
  first_at_is =
      bit_cases (m % 2) (omega arith)
      (λ e. rw (eq-eqb (m % 2) 0 e) (spectrum_is (2 * (m / 2)) a (omega arith)))
      (λ e. rw (ne_eqb (m % 2) 0 (λ z. omega arith)) (before_is (2 * (m / 2)) a (omega arith)))

  second_at_some : (k : ℕ) → 1 ≤ k →
      second_at m k a b ≡ filled (carriers m) (stages m (2 * ((k - 1) / 2) + 1) (entry a)) b
  unfolding second_at
  second_at_some zero h = absurd (omega arith)
  second_at_some (suc k) h =
      let d : k ≡ suc k - 1 = omega arith in
      ap (λ (j : ℕ). filled (carriers m) (stages m (2 * (j / 2) + 1) (entry a)) b) d

  second_at_is : 1 ≤ m → second_at m m a b ≡ filled (carriers m) (in_the_second (in_first m)) b
  second_at_is h =
      second_at_some m h
      ∙ bit_cases (m % 2) (omega arith)
      (λ e. rw (eq-eqb (m % 2) 0 e) (before_is (2 * ((m - 1) / 2) + 1) b (omega arith)))
      (λ e. rw (ne_eqb (m % 2) 0 (λ z. omega arith)) (spectrum_is (2 * ((m - 1) / 2) + 1) b (omega arith)))

  pub ran_refused : (k : ℕ) (v : List ℕ) → outcome ≡ refuses k v → Ran m a b 0 a b
  unfolding part_length first_after second_after
  ran_refused k v e = record { count = rw e; first = rw e; second = rw e }

  pub ran_allowed : (n : ℕ) (a' b' : List ℤ) → outcome ≡ allowed → n ≡ carriers m → a' ≡ first_at m m a →
      b' ≡ second_at m m a b → Ran m a b n a' b'
  unfolding part_length first_after second_after
  ran_allowed n a' b' e p q r = record {
    count = p ∙ rw e;
    first = q ∙ first_at_is ∙ rw e;
    second = r ∙ second_at_is (omega (arith, (in_m_range m (transform_taken m a b e).range).0)) ∙ rw e;
  }
