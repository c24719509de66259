-- Laws of Best and Tied. In order: only one label and value is best; a best from tests; one that is better than every
-- other; a best under another measure; only one tie is told; a tie with another, none, and under another measure; whole
-- numbers at most each other.
-- Not here: laws of answers (DecodingLaws).  Assumes nothing.
use Prim.Native.Nat.{ℕ, ◌<◌, ◌≤◌}
use native.Mathlib.Nat.{le_antisymm, lt_trans, ne_of_lt}
use native.Mathlib.Decide.{dec_lt, ℕ_discrete}
use native.Mathlib.Omega.{arith}
use mathlib.Core.Path.{◌≡◌, refl, sym, ap, subst}
use mathlib.Core.Bool.{Bool, true, false, not, false≢true}
use mathlib.Core.Logic.{◌≢◌, ◌↔◌}
use lib.Dec.{T, T_not, leb→le}
use lib.IntN.{ℤ, pos, negsuc}
use Rattle.range.specs.Below.{all_below}
use Rattle.range.proofs.Tests.{bool_of_iff, all_below_at}
use Rattle.rules.specs.Best.{AtMost, Best, Tied}

module _ {X : Type 0} (n : ℕ) (Stands : X → X → Type 0) (value : ℕ → X) where
  best_le : (l k : ℕ) (v : X) → Best n Stands value l v → Best n Stands value k v → l ≤ k
  best_le l k v p q = elim (dec_lt k l) [ yes h ↦ absurd (p.earliest k h (sym q.attained)) | no h ↦ omega arith ]

  best_stands : (l k : ℕ) (v w : X) → Best n Stands value l v → Best n Stands value k w → Stands v w
  best_stands l k v w p q = subst (λ (x : X). Stands x w) (sym p.attained) (q.best l p.inside)

  -- only one label and value is best, where two values that stand so to each other are equal
  pub best_unique : ((u v : X) → Stands u v → Stands v u → u ≡ v) → (l k : ℕ) (v w : X) → Best n Stands value l v →
      Best n Stands value k w → (l ≡ k) × (v ≡ w)
  best_unique anti l k v w p q =
      let e : v ≡ w = anti v w (best_stands l k v w p q) (best_stands k l w v q p) in
      let r : Best n Stands value k v = subst (Best n Stands value k) (sym e) q in
      (le_antisymm (best_le l k v p r) (best_le k l v r p), e)

  -- a best by a test of how two values stand: every value stands to l's, and l's to none before it
  pub best_of_tests : (test : X → X → Bool) → ((u v : X) → T (test u v) → Stands u v) → (l : ℕ) → l < n →
      T (test (value l) (value l)) → all_below n (λ j. test (value j) (value l)) ≡ true →
      all_below l (λ j. not (test (value l) (value j))) ≡ true → Best n Stands value l (value l)
  best_of_tests test sound l inside self all before = record {
    inside = inside;
    attained = refl;
    best = λ j h. sound _ _ (subst T (sym (all_below_at n (λ i. test (value i) (value l)) all j h)) tt);
    earliest = λ j h q. T_not (test (value l) (value j))
        (subst T (sym (all_below_at l (λ i. not (test (value l) (value i))) before j h)) tt)
        (subst (λ (x : X). T (test (value l) x)) (sym q) self);
  }

  -- one that is better than every other is best
  pub best_alone : (l : ℕ) → l < n → Stands (value l) (value l) →
      ((k : ℕ) → k < n → k ≢ l → Stands (value k) (value l) × (value k ≢ value l)) → Best n Stands value l (value l)
  best_alone l inside self others = record {
    inside = inside;
    attained = refl;
    best = λ k h. elim (ℕ_discrete k l) [ yes e ↦ rw e self | no ne ↦ (others k h ne).0 ];
    earliest = λ k h. (others k (lt_trans h inside) (ne_of_lt h)).1;
  }

  -- a best stays best under another measure that keeps how values stand to it, and which are equal to it
  pub best_map : {Y : Type 0} (Others : Y → Y → Type 0) (other : ℕ → Y) (l : ℕ) (v : X) (w : Y) →
      Best n Stands value l v → ((k : ℕ) → Stands (value k) v → Others (other k) w) →
      ((k : ℕ) → (other k ≡ w) ↔ (value k ≡ v)) → Best n Others other l w
  best_map Others other l v w p order same = record {
    inside = p.inside;
    attained = sym ((same l).1 (sym p.attained));
    best = λ k h. order k (p.best k h);
    earliest = λ k h e. p.earliest k h ((same k).0 e);
  }

module _ {X : Type 0} (n : ℕ) (value : ℕ → X) (l : ℕ) (v : X) where
  pub tied_unique : (s t : Bool) → Tied n value l v s → Tied n value l v t → s ≡ t
  tied_unique s t p q = bool_of_iff s t (λ e. q.1 (p.0 e), λ e. p.1 (q.0 e))

  pub tied_of_another : (k : ℕ) → k < n → k ≢ l → value k ≡ v → Tied n value l v true
  tied_of_another k inside ne e = (λ _. (k, inside, ne, e), λ _. refl)

  pub tied_of_alone : ((k : ℕ) → k < n → k ≢ l → value k ≢ v) → Tied n value l v false
  tied_of_alone others = (λ e. absurd (false≢true e), λ r. absurd (others r.0 r.1 r.2 r.3))

  -- a tie stays under another measure that keeps which values are equal to it
  pub tied_map : {Y : Type 0} (other : ℕ → Y) (w : Y) (t : Bool) → ((k : ℕ) → (other k ≡ w) ↔ (value k ≡ v)) →
      Tied n value l v t → Tied n other l w t
  tied_map other w t same p = (
    λ q. let r = p.0 q in (r.0, r.1, r.2, (same r.0).1 r.3),
    λ r. p.1 (r.0, r.1, r.2, (same r.0).0 r.3),
  )

pub at_most_antisymm : (u v : ℤ) → AtMost u v → AtMost v u → u ≡ v
at_most_antisymm (pos a) (pos b) p q = ap pos (le_antisymm (leb→le a b p) (leb→le b a q))
at_most_antisymm (pos a) (negsuc b) p q = absurd p
at_most_antisymm (negsuc a) (pos b) p q = absurd q
at_most_antisymm (negsuc a) (negsuc b) p q = ap negsuc (le_antisymm (leb→le a b q) (leb→le b a p))
