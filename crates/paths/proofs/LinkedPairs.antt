-- The links of a pair: two numbers are linked in a list without duplicates if they are neighbours in it.
-- Defines:  on_pair a b   1 at a and at b, 0 elsewhere: links (on_pair a b) p is 1 if a and b are linked in p, else 0
-- In order: the pair's digits; a pair in either order; neighbours; a pair of which one is absent; links of a pair are
-- 0 or 1; the first two are linked; the head is linked to the second alone.
-- Not here: lists with the same links (Links).  Assumes nothing.
use Prim.Native.Nat.{ℕ, ◌+◌, ◌*◌, ◌≤◌, zero-le}
use native.Mathlib.Decide.{ℕ_discrete}
use native.Mathlib.Omega.{arith}
use mathlib.Core.Path.{◌≡◌, refl, sym, ◌∙◌, ap, fun_ext}
use mathlib.Core.Logic.{◌≢◌}
use mathlib.Core.Bool.{◌||◌, or_comm, or-true}
use mathlib.Core.List.{List, [], ◌∷◌}
use lib.Dec.{eqb}
use borrow.Author.Tests.{eq-eqb, ne_eqb}
use Rattle.range.specs.Below.{one_if}
use Rattle.range.proofs.Sums.{one_if_le}
use Rattle.rules.specs.Path.{times}
use Rattle.rules.specs.Word.{links}
use Rattle.paths.proofs.Times.{Distinct, times_here, times_tail_le, distinct_tail, distinct_head}

-- 1 at a and at b, 0 elsewhere
unfoldable pub on_pair : ℕ → ℕ → ℕ → ℕ
on_pair a b k = one_if (eqb k a || eqb k b)

pub on_pair_left : (a b k : ℕ) → k ≡ a → on_pair a b k ≡ 1
unfolding on_pair
on_pair_left a b k e = rw (eq-eqb k a e)

pub on_pair_right : (a b k : ℕ) → k ≡ b → on_pair a b k ≡ 1
unfolding on_pair
on_pair_right a b k e = rw (eq-eqb k b e, or-true (eqb k a))

pub on_pair_other : (a b k : ℕ) → k ≢ a → k ≢ b → on_pair a b k ≡ 0
unfolding on_pair
on_pair_other a b k d e = rw (ne_eqb k a d, ne_eqb k b e)

on_pair_le : (a b k : ℕ) → on_pair a b k ≤ 1
unfolding on_pair
on_pair_le a b k = one_if_le (eqb k a || eqb k b)

pub links_swap : (a b : ℕ) (p : List ℕ) → links (on_pair a b) p ≡ links (on_pair b a) p
unfolding on_pair
links_swap a b p = ap (λ (f : ℕ → ℕ). links f p) (fun_ext (λ k. ap one_if (or_comm (eqb k a) (eqb k b))))

pub links_tail_le : (x : ℕ → ℕ) (u : ℕ) (p : List ℕ) → links x p ≤ links x (u ∷ p)
unfolding links
links_tail_le x u [] = zero-le
links_tail_le x u (v ∷ p) = omega arith

-- neighbours in a list without duplicates differ
pub second_other : (u v : ℕ) (p : List ℕ) → Distinct (u ∷ (v ∷ p)) → u ≢ v
second_other u v p d e = omega (arith, distinct_head u (v ∷ p) d, times_here u v p (sym e))

-- a number that stands nowhere in a list is not the head, and stands nowhere in the rest
absent_head : (k x : ℕ) (p : List ℕ) → times k (x ∷ p) ≡ 0 → x ≢ k
absent_head k x p z e = omega (arith, times_here k x p e)

absent_tail : (k x : ℕ) (p : List ℕ) → times k (x ∷ p) ≡ 0 → times k p ≡ 0
absent_tail k x p z = omega (arith, times_tail_le k x p)

pub links_absent : (a b : ℕ) (p : List ℕ) → Distinct p → times a p ≡ 0 → links (on_pair a b) p ≡ 0
unfolding links
links_absent a b [] d z = refl
links_absent a b (u ∷ []) d z = refl
links_absent a b (u ∷ (v ∷ p)) d z =
    at (ℕ_discrete u b) (links_absent a b (v ∷ p) (distinct_tail u (v ∷ p) d) (absent_tail a u (v ∷ p) z))
  where
    ua : u ≢ a
    ua = absent_head a u (v ∷ p) z

    va : v ≢ a
    va = absent_head a v p (absent_tail a u (v ∷ p) z)

    at : Dec (u ≡ b) → links (on_pair a b) (v ∷ p) ≡ 0 → on_pair a b u * on_pair a b v + links (on_pair a b) (v ∷ p) ≡ 0
    at (yes e) r = rw (on_pair_other a b v va (λ f. second_other u v p d (e ∙ sym f))) (omega arith)
    at (no n) r = rw (on_pair_other a b u ua n) (omega arith)

pub links_pair_le : (a b : ℕ) (p : List ℕ) → Distinct p → links (on_pair a b) p ≤ 1
unfolding links
links_pair_le a b [] d = zero-le
links_pair_le a b (u ∷ []) d = zero-le
links_pair_le a b (u ∷ (v ∷ p)) d = at (ℕ_discrete u a) (ℕ_discrete u b) (links_pair_le a b (v ∷ p) rest)
  where
    rest : Distinct (v ∷ p)
    rest = distinct_tail u (v ∷ p) d

    alone : times u (v ∷ p) ≡ 0
    alone = distinct_head u (v ∷ p) d

    at : Dec (u ≡ a) → Dec (u ≡ b) → links (on_pair a b) (v ∷ p) ≤ 1 →
        on_pair a b u * on_pair a b v + links (on_pair a b) (v ∷ p) ≤ 1
    at (yes e) f r =
        rw (on_pair_left a b u e)
        (omega (arith, on_pair_le a b v, links_absent a b (v ∷ p) rest (rw e at alone)))
    at (no n) (yes e) r =
        rw (on_pair_right a b u e)
        (omega (arith, on_pair_le a b v, links_swap a b (v ∷ p), links_absent b a (v ∷ p) rest (rw e at alone)))
    at (no n) (no k) r = rw (on_pair_other a b u n k) (omega arith)

-- the head and the second are linked
pub links_first : (a b u v : ℕ) (p : List ℕ) → on_pair a b u ≡ 1 → on_pair a b v ≡ 1 →
    1 ≤ links (on_pair a b) (u ∷ (v ∷ p))
unfolding links
links_first a b u v p e f = rw (e, f) (omega arith)

-- the head is linked to the second alone
pub links_head : (x y b : ℕ) (p : List ℕ) → Distinct (x ∷ (y ∷ p)) → 1 ≤ links (on_pair x b) (x ∷ (y ∷ p)) → b ≡ y
unfolding links
links_head x y b p d h = at (ℕ_discrete y b)
  where
    at : Dec (y ≡ b) → b ≡ y
    at (yes e) = sym e
    at (no k) =
        let z : on_pair x b y ≡ 0 = on_pair_other x b y (λ e. second_other x y p d (sym e)) k in
        let rest : Distinct (y ∷ p) = distinct_tail x (y ∷ p) d in
        let a : links (on_pair x b) (y ∷ p) ≡ 0 = links_absent x b (y ∷ p) rest (distinct_head x (y ∷ p) d) in
        absurd (omega (arith, rw (on_pair_left x b x refl, z) at h))
