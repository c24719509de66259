-- Laws of tests, and of all_below and first_below. In order: below and at least; tests that are passed together; both
-- sides of a conjunction, the conjunction by its first side, both sides of a disjunction that fails; a test not passed;
-- a claim about all below n, one more; all, from each place, at each place, refuted; the first, found, not found, and
-- back.
-- Not here: sums and counts (Sums), lists (Lists).  Assumes nothing.
use Prim.Native.Nat.{ℕ, zero, suc, ◌+◌, ◌≤◌, ◌<◌, zero-le, suc-le-suc}
use native.Mathlib.Nat.{not-suc-le-zero, le_of_suc-le-suc}
use native.Mathlib.Decide.{ℕ_discrete, dec_lt}
use native.Mathlib.Omega.{arith}
use mathlib.Core.Path.{◌≡◌, refl, sym, ◌∙◌, subst}
use mathlib.Core.Bool.{Bool, true, false, not, ◌&&◌, ◌||◌, false≢true}
use mathlib.Core.Logic.{◌↔◌}
use mathlib.Core.Option.{Option, none, some}
use lib.Dec.{leb, ltb, eqb}
use borrow.Author.Tests.{leb-true, leb-false, le-ltb, lt-ltb, eqb-true, eq-eqb}
use Rattle.range.specs.Below.{all_below, first_below, zero_or}

-- below is not at least
pub ltb_not_leb : (a b : ℕ) → ltb a b ≡ not (leb b a)
ltb_not_leb a b = go (leb b a) refl
  where
    go : (t : Bool) → leb b a ≡ t → ltb a b ≡ not t
    go true e = le-ltb a b (leb-true b a e)
    go false e = lt-ltb a b (leb-false b a e)

-- two tests that are passed together are one test
pub bool_of_iff : (a b : Bool) → ((a ≡ true) ↔ (b ≡ true)) → a ≡ b
bool_of_iff true b e = sym (e.0 refl)
bool_of_iff false true e = e.1 refl
bool_of_iff false false e = refl

pub eqb_of_iff : (a b c d : ℕ) → (a ≡ b → c ≡ d) → (c ≡ d → a ≡ b) → eqb a b ≡ eqb c d
eqb_of_iff a b c d to from =
    bool_of_iff (eqb a b) (eqb c d) (λ e. eq-eqb c d (to (eqb-true a b e)), λ e. eq-eqb a b (from (eqb-true c d e)))

-- both sides of a conjunction
pub and_left : (a b : Bool) → (a && b) ≡ true → a ≡ true
and_left true b e = refl
and_left false b e = e

pub and_right : (a b : Bool) → (a && b) ≡ true → b ≡ true
and_right true b e = e
and_right false b e = absurd (false≢true e)

pub and_of : (a b : Bool) → a ≡ true → b ≡ true → (a && b) ≡ true
and_of a b p q = rw (p, q)

-- a conjunction by its first side, as code answers it
pub and_of_true : (a b : Bool) → a ≡ true → b ≡ (a && b)
and_of_true a b p = rw p

pub and_of_false : (a b : Bool) → a ≡ false → a ≡ (a && b)
and_of_false a b p = rw p

-- both sides of a disjunction that fails
pub or_false : (a b : Bool) → (a || b) ≡ false → (a ≡ false) × (b ≡ false)
or_false true b e = absurd (false≢true (sym e))
or_false false b e = (refl, e)

-- a test that is not passed fails
pub false_of_not_true : (b : Bool) → (b ≡ true → ⊥) → b ≡ false
false_of_not_true true h = absurd (h refl)
false_of_not_true false h = refl

pub true_of_not_false : (b : Bool) → (b ≡ false → ⊥) → b ≡ true
true_of_not_false true h = refl
true_of_not_false false h = absurd (h refl)

-- a claim about all below n, and about n
pub below_suc : (P : ℕ → Type 0) (n : ℕ) → ((k : ℕ) → k < n → P k) → P n → (k : ℕ) → k < suc n → P k
below_suc P n all last k h = elim (ℕ_discrete k n) [ yes e ↦ subst P (sym e) last | no d ↦ all k (omega arith) ]

pub below_next : (P : ℕ → Type 0) (n : ℕ) → ((k : ℕ) → k < n → P k) → P n → (k : ℕ) → k < n + 1 → P k
below_next P n all last k h = below_suc P n all last k (omega arith)

pub all_below_of : (n : ℕ) (f : ℕ → Bool) → ((i : ℕ) → i < n → f i ≡ true) → all_below n f ≡ true
unfolding all_below
all_below_of zero f e = refl
all_below_of (suc n) f e =
    and_of (f zero) (all_below n (λ i. f (suc i))) (e zero (suc-le-suc zero-le))
    (all_below_of n (λ i. f (suc i)) (λ i h. e (suc i) (suc-le-suc h)))

pub all_below_at : (n : ℕ) (f : ℕ → Bool) → all_below n f ≡ true → (i : ℕ) → i < n → f i ≡ true
unfolding all_below
all_below_at zero f e i h = absurd (not-suc-le-zero h)
all_below_at (suc n) f e zero h = and_left (f zero) (all_below n (λ k. f (suc k))) e
all_below_at (suc n) f e (suc i) h =
    all_below_at n (λ k. f (suc k)) (and_right (f zero) (all_below n (λ k. f (suc k))) e) i (le_of_suc-le-suc h)

pub all_below_not : (n : ℕ) (f : ℕ → Bool) (i : ℕ) → i < n → f i ≡ false → all_below n f ≡ false
all_below_not n f i h e = false_of_not_true (all_below n f) (λ a. false≢true (sym e ∙ all_below_at n f a i h))

-- the first that passes: it does, and none before it
pub first_below_some : (n : ℕ) (f : ℕ → Bool) (i : ℕ) → i < n → f i ≡ true → ((j : ℕ) → j < i → f j ≡ false) →
    first_below n f ≡ some i
unfolding first_below
first_below_some zero f i h e b = absurd (not-suc-le-zero h)
first_below_some (suc n) f zero h e b = rw e
first_below_some (suc n) f (suc i) h e b =
    rw (
      b zero (suc-le-suc zero-le),
      first_below_some n (λ k. f (suc k)) i (le_of_suc-le-suc h) e (λ j l. b (suc j) (suc-le-suc l)),
    )

pub first_below_none : (n : ℕ) (f : ℕ → Bool) → ((i : ℕ) → i < n → f i ≡ false) → first_below n f ≡ none
unfolding first_below
first_below_none zero f e = refl
first_below_none (suc n) f e =
    rw (e zero (suc-le-suc zero-le), first_below_none n (λ k. f (suc k)) (λ i h. e (suc i) (suc-le-suc h)))

-- what a search tells, whichever way it ends
data Found (n : ℕ) (f : ℕ → Bool) : Option ℕ → Type 0 where
  at : (i : ℕ) → i < n → f i ≡ true → ((j : ℕ) → j < i → f j ≡ false) → Found n f (some i)
  nowhere : ((i : ℕ) → i < n → f i ≡ false) → Found n f none

found_step : (n : ℕ) (f : ℕ → Bool) (b : Bool) (o : Option ℕ) → f zero ≡ b → Found n (λ i. f (suc i)) o →
    Found (suc n) f (zero_or b o)
found_step n f true o e r = at zero (suc-le-suc zero-le) e (λ j l. absurd (not-suc-le-zero l))
found_step n f false none e (nowhere a) = nowhere (λ i. split i)
  where
    split : (i : ℕ) → i < suc n → f i ≡ false
    split zero h = e
    split (suc i) h = a i (le_of_suc-le-suc h)
found_step n f false (some i) e (at k h p b) = at (suc k) (suc-le-suc h) p (λ j. before j)
  where
    before : (j : ℕ) → j < suc k → f j ≡ false
    before zero l = e
    before (suc j) l = b j (le_of_suc-le-suc l)

found : (n : ℕ) (f : ℕ → Bool) → Found n f (first_below n f)
unfolding first_below
found zero f = nowhere (λ i h. absurd (not-suc-le-zero h))
found (suc n) f = found_step n f (f zero) (first_below n (λ i. f (suc i))) refl (found n (λ i. f (suc i)))

pub first_below_at : (n : ℕ) (f : ℕ → Bool) (i : ℕ) → first_below n f ≡ some i →
    (i < n) × ((f i ≡ true) × ((j : ℕ) → j < i → f j ≡ false))
first_below_at n f i e = of (subst (Found n f) e (found n f))
  where
    of : Found n f (some i) → (i < n) × ((f i ≡ true) × ((j : ℕ) → j < i → f j ≡ false))
    of (at k l p b) = (l, (p, b))

pub first_below_nowhere : (n : ℕ) (f : ℕ → Bool) → first_below n f ≡ none → (i : ℕ) → i < n → f i ≡ false
first_below_nowhere n f e = of (subst (Found n f) e (found n f))
  where
    of : Found n f none → (i : ℕ) → i < n → f i ≡ false
    of (nowhere a) = a

-- further on nothing passes, so that looking further finds nothing more
pub first_below_more : (n k : ℕ) (f : ℕ → Bool) → n ≤ k → ((i : ℕ) → n ≤ i → f i ≡ false) →
    first_below k f ≡ first_below n f
first_below_more n k f h rest = go (first_below n f) refl
  where
    all : first_below n f ≡ none → (i : ℕ) → Dec (i < n) → f i ≡ false
    all e i (yes l) = first_below_nowhere n f e i l
    all e i (no l) = rest i (omega arith)

    go : (o : Option ℕ) → first_below n f ≡ o → first_below k f ≡ o
    go none e = first_below_none k f (λ i _. all e i (dec_lt i n))
    go (some i) e =
        let found = first_below_at n f i e in
        first_below_some k f i (omega (arith, found.0)) found.1.0 found.1.1
