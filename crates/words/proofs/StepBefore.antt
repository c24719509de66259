-- The step before the first digit of a list at which two functions differ: what stands around it is odd in sum.
-- Defines:  step_before x y c p   the step before the first of p at which x and y differ, where c comes before p
--           both x y p s          what stands around s in p, for x and for y, added up
-- In order: x and y agree at the step before; it is in the list; it depends on where x and y differ alone; what stands
-- around what is absent, around the head, and past a head at which x and y agree; functions that agree at the head and
-- in the rest; what stands around the step before.
-- Not here: digits turned over (Around).  Assumes nothing.
use Prim.Native.Nat.{ℕ, ◌+◌, ◌%◌, ◌<◌}
use native.Mathlib.Omega.{arith}
use mathlib.Core.Path.{◌≡◌, refl, ◌∙◌}
use mathlib.Core.Logic.{◌≢◌, ⊎_elim}
use mathlib.Core.Bool.{Bool, true, false, cond}
use mathlib.Core.List.Memᴰ
use mathlib.Core.List.{List, [], ◌∷◌, Memᴰ}
use lib.Dec.{eqb}
use borrow.Author.Tests.{eqb-true, eqb-false, eq-eqb, ne_eqb}
use Rattle.rules.specs.Path.{times}
use Rattle.paths.proofs.Times.{Distinct, distinct_tail, distinct_head, times_here, times_tail_le}
use Rattle.words.proofs.Around.{around}

unfoldable pub step_before : (ℕ → ℕ) → (ℕ → ℕ) → ℕ → List ℕ → ℕ
step_before x y c [] = c
step_before x y c (v ∷ p) = cond (eqb (x v) (y v)) (step_before x y v p) c

pub step_before_same : (x y : ℕ → ℕ) (u : ℕ) (p : List ℕ) → x u ≡ y u →
    x (step_before x y u p) ≡ y (step_before x y u p)
unfolding step_before
step_before_same x y u [] e = e
step_before_same x y u (v ∷ p) e = at (eqb (x v) (y v)) refl (λ f. step_before_same x y v p f)
  where
    at : (b : Bool) → eqb (x v) (y v) ≡ b → (x v ≡ y v → x (step_before x y v p) ≡ y (step_before x y v p)) →
        x (cond b (step_before x y v p) u) ≡ y (cond b (step_before x y v p) u)
    at true q f = f (eqb-true (x v) (y v) q)
    at false q f = e

pub step_before_in : (x y : ℕ → ℕ) (u : ℕ) (p : List ℕ) → Memᴰ (step_before x y u p) (u ∷ p)
unfolding step_before
step_before_in x y u [] = Memᴰ.head refl
step_before_in x y u (v ∷ p) = at (eqb (x v) (y v)) (step_before_in x y v p)
  where
    at : (b : Bool) → Memᴰ (step_before x y v p) (v ∷ p) →
        Memᴰ (cond b (step_before x y v p) u) (u ∷ (v ∷ p))
    at true i = Memᴰ.tail i
    at false i = Memᴰ.head refl

pub step_before_cong : (x y x' y' : ℕ → ℕ) (u : ℕ) (p : List ℕ) →
    ((k : ℕ) → Memᴰ k p → eqb (x k) (y k) ≡ eqb (x' k) (y' k)) → step_before x y u p ≡ step_before x' y' u p
unfolding step_before
step_before_cong x y x' y' u [] e = refl
step_before_cong x y x' y' u (v ∷ p) e =
    rw (e v (Memᴰ.head refl), step_before_cong x y x' y' v p (λ k i. e k (Memᴰ.tail i)))

around_absent : (a : ℕ) (x : ℕ → ℕ) (p : List ℕ) → times a p ≡ 0 → around a x p ≡ 0
unfolding around
around_absent a x [] z = refl
around_absent a x (u ∷ []) z = refl
around_absent a x (u ∷ (v ∷ p)) z =
    let rest : times a (v ∷ p) ≡ 0 = omega (arith, times_tail_le a u (v ∷ p)) in
    let first : u ≢ a = λ e. omega (arith, times_here a u (v ∷ p) e) in
    let second : v ≢ a = λ e. omega (arith, times_here a v p e) in
    rw (ne_eqb u a first, ne_eqb v a second) (omega (arith, around_absent a x (v ∷ p) rest))

-- around the head stands the second alone
around_head : (u v : ℕ) (x : ℕ → ℕ) (p : List ℕ) → Distinct (u ∷ (v ∷ p)) → around u x (u ∷ (v ∷ p)) ≡ x v
unfolding around
around_head u v x p d =
    let z : times u (v ∷ p) ≡ 0 = distinct_head u (v ∷ p) d in
    let other : v ≢ u = λ e. omega (arith, times_here u v p e) in
    rw (eq-eqb u u refl, ne_eqb v u other) (omega (arith, around_absent u x (v ∷ p) z))

-- two digits in front at which x and y agree add an even number
around_past : (a u v : ℕ) (x y : ℕ → ℕ) (p : List ℕ) → x u ≡ y u → x v ≡ y v →
    (around a x (u ∷ (v ∷ p)) + around a y (u ∷ (v ∷ p))) % 2 ≡ (around a x (v ∷ p) + around a y (v ∷ p)) % 2
unfolding around
around_past a u v x y p e f = rw (e, f) (omega arith)

-- two functions that agree at the head and in the rest agree in the whole
pub agree_cons : (x y : ℕ → ℕ) (v : ℕ) (p : List ℕ) → x v ≡ y v → ((k : ℕ) → Memᴰ k p → x k ≡ y k) →
    (k : ℕ) → Memᴰ k (v ∷ p) → x k ≡ y k
agree_cons x y v p e f k i = ⊎_elim (λ q. rw q e) (λ j. f k j) (Memᴰ.cases_cons i)

-- what stands around a step, in both functions
abbrev both : (ℕ → ℕ) → (ℕ → ℕ) → List ℕ → ℕ → ℕ
both x y p s = around s x p + around s y p

pub around_before : (x y : ℕ → ℕ) (u : ℕ) (p : List ℕ) → Distinct (u ∷ p) → ((k : ℕ) → x k < 2) →
    ((k : ℕ) → y k < 2) → x u ≡ y u → (((k : ℕ) → Memᴰ k p → x k ≡ y k) → ⊥) →
    (around (step_before x y u p) x (u ∷ p) + around (step_before x y u p) y (u ∷ p)) % 2 ≡ 1
unfolding step_before
around_before x y u [] d lx ly e f = absurd (f (λ k i. absurd (Memᴰ.not-nil i)))
around_before x y u (v ∷ p) d lx ly e f =
    at (eqb (x v) (y v)) refl
    (λ q. around_before x y v p (distinct_tail u (v ∷ p) d) lx ly q (λ g. f (agree_cons x y v p q g)))
  where
    at : (b : Bool) → eqb (x v) (y v) ≡ b → (x v ≡ y v → both x y (v ∷ p) (step_before x y v p) % 2 ≡ 1) →
        both x y (u ∷ (v ∷ p)) (cond b (step_before x y v p) u) % 2 ≡ 1
    at true q g =
        let same : x v ≡ y v = eqb-true (x v) (y v) q in
        around_past (step_before x y v p) u v x y p e same ∙ g same
    at false q g =
        let other : x v ≢ y v = eqb-false (x v) (y v) q in
        rw (around_head u v x p d, around_head u v y p d) (omega (arith, lx v, ly v))
