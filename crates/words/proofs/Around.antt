-- What turning over one digit does to the links of a list of digits' numbers, modulo 2: rules' Word.
-- Defines:  Turned m a x y    y is x with digit a turned over, among the digits up to m
--           around a x p      the sum of x over the neighbours of a in p
-- In order: a flip turns one digit over; the rest of a good list; a digit turned over and the others; the links, with
-- and without one digit turned over, add up to what stands around it; what stands around one digit, with and without
-- another turned over, adds up to the links of the two.
-- Not here: where two functions first differ (StepBefore), the forms at four places (FourForms).  Assumes nothing.
use Prim.Native.Nat.{ℕ, suc, ◌+◌, ◌*◌, ◌%◌, ◌≤◌, suc-le-suc}
use native.Mathlib.Decide.{ℕ_discrete}
use native.Mathlib.Omega.{arith}
use mathlib.Core.Path.{◌≡◌, refl, sym, ◌∙◌, ap}
use mathlib.Core.Logic.{◌≢◌}
use mathlib.Core.List.{List, [], ◌∷◌}
use lib.Dec.{eqb}
use borrow.Author.Tests.{eq-eqb, ne_eqb}
use Rattle.range.specs.Below.{one_if}
use Rattle.rules.specs.Place.{digit}
use Rattle.rules.specs.Word.{links}
use Rattle.places.proofs.Flips.{flip, digit_flip_at, digit_flip_off}
use Rattle.paths.proofs.LinkedPairs.{on_pair, on_pair_left, on_pair_right, on_pair_other}
use Rattle.words.proofs.Readings.{Good}

record Turned (m a : ℕ) (x y : ℕ → ℕ) : Type 0 where
  at : x a + y a ≡ 1
  off : (k : ℕ) → k ≤ m → k ≢ a → y k ≡ x k

flip_turned : (m a i : ℕ) → a ≤ m → Turned m a (digit m i) (digit m (flip m a i))
flip_turned m a i u = record { at = digit_flip_at m a i; off = λ k l n. digit_flip_off m a k i u l n }

unfoldable pub around : ℕ → (ℕ → ℕ) → List ℕ → ℕ
around a x [] = 0
around a x (u ∷ []) = 0
around a x (u ∷ (v ∷ p)) = one_if (eqb u a) * x v + one_if (eqb v a) * x u + around a x (v ∷ p)

good_tail : (m u : ℕ) (p : List ℕ) → Good m (u ∷ p) → Good m p
good_tail m u p g = record {
  within = λ i l. g.within (suc i) (suc-le-suc l);
  apart = λ i l. g.apart (suc i) (suc-le-suc l);
}

module _ (m a : ℕ) (x y : ℕ → ℕ) (t : Turned m a x y) where
  turned_here : (k : ℕ) → k ≡ a → x k + y k ≡ 1
  turned_here k e = rw e t.at

  -- a product with digit a and another digit, with and without digit a turned over
  turned_one : (u v : ℕ) → v ≤ m → u ≡ a → v ≢ a → x u * x v + y u * y v ≡ x v
  turned_one u v l e n = rw (t.off v l n) (omega (arith, ap (λ (k : ℕ). k * x v) (turned_here u e)))

  turned_product : (u v : ℕ) → u ≤ m → v ≤ m → u ≢ v →
      (x u * x v + y u * y v) % 2 ≡ (one_if (eqb u a) * x v + one_if (eqb v a) * x u) % 2
  turned_product u v lu lv n = at (ℕ_discrete u a) (ℕ_discrete v a)
    where
      at : Dec (u ≡ a) → Dec (v ≡ a) →
          (x u * x v + y u * y v) % 2 ≡ (one_if (eqb u a) * x v + one_if (eqb v a) * x u) % 2
      at (yes e) (yes f) = absurd (n (e ∙ sym f))
      at (yes e) (no f) = rw (eq-eqb u a e, ne_eqb v a f) (omega (arith, turned_one u v lv e f))
      at (no e) (yes f) = rw (ne_eqb u a e, eq-eqb v a f) (omega (arith, turned_one v u lu f e))
      at (no e) (no f) = rw (ne_eqb u a e, ne_eqb v a f, t.off u lu e, t.off v lv f) (omega arith)

links_turned : (m a : ℕ) (x y : ℕ → ℕ) (p : List ℕ) → Good m p → Turned m a x y →
    (links x p + links y p) % 2 ≡ around a x p % 2
unfolding links around
links_turned m a x y [] g t = refl
links_turned m a x y (u ∷ []) g t = refl
links_turned m a x y (u ∷ (v ∷ p)) g t =
    let first = turned_product m a x y t u v (g.within 0 (omega arith)) (g.within 1 (omega arith))
    (g.apart 0 (omega arith)) in
    omega (arith, first, links_turned m a x y (v ∷ p) (good_tail m u (v ∷ p) g) t)

pub links_flip : (m a i : ℕ) (p : List ℕ) → a ≤ m → Good m p →
    (links (digit m i) p + links (digit m (flip m a i)) p) % 2 ≡ around a (digit m i) p % 2
links_flip m a i p l g = links_turned m a (digit m i) (digit m (flip m a i)) p g (flip_turned m a i l)

module _ (m a b : ℕ) (x y : ℕ → ℕ) (n : a ≢ b) (t : Turned m b x y) where
  -- digit k, with and without digit b turned over
  turned_sum : (k : ℕ) → k ≤ m → k ≢ a → (x k + y k) % 2 ≡ on_pair a b k
  turned_sum k l d = at (ℕ_discrete k b)
    where
      at : Dec (k ≡ b) → (x k + y k) % 2 ≡ on_pair a b k
      at (yes e) = rw (on_pair_right a b k e, turned_here m b x y t k e)
      at (no e) = rw (on_pair_other a b k d e, t.off k l e) (omega arith)

  turned_neighbours : (u v : ℕ) → u ≤ m → v ≤ m → u ≢ v →
      (one_if (eqb u a) * x v + one_if (eqb v a) * x u + (one_if (eqb u a) * y v + one_if (eqb v a) * y u)) % 2
      ≡ on_pair a b u * on_pair a b v
  turned_neighbours u v lu lv d = at (ℕ_discrete u a) (ℕ_discrete v a)
    where
      apart : u ≢ a → v ≢ a → Dec (u ≡ b) → on_pair a b u * on_pair a b v ≡ 0
      apart e f (yes g) = rw (on_pair_other a b v f (λ i. d (g ∙ sym i))) (omega arith)
      apart e f (no g) = rw (on_pair_other a b u e g) (omega arith)

      at : Dec (u ≡ a) → Dec (v ≡ a) →
          (one_if (eqb u a) * x v + one_if (eqb v a) * x u + (one_if (eqb u a) * y v + one_if (eqb v a) * y u)) % 2
          ≡ on_pair a b u * on_pair a b v
      at (yes e) (yes f) = absurd (d (e ∙ sym f))
      at (yes e) (no f) = rw (eq-eqb u a e, ne_eqb v a f, on_pair_left a b u e) (omega (arith, turned_sum v lv f))
      at (no e) (yes f) = rw (ne_eqb u a e, eq-eqb v a f, on_pair_left a b v f) (omega (arith, turned_sum u lu e))
      at (no e) (no f) = rw (ne_eqb u a e, ne_eqb v a f) (omega (arith, apart e f (ℕ_discrete u b)))

around_turned : (m a b : ℕ) (x y : ℕ → ℕ) (p : List ℕ) → Good m p → a ≢ b → Turned m b x y →
    (around a x p + around a y p) % 2 ≡ links (on_pair a b) p % 2
unfolding links around
around_turned m a b x y [] g n t = refl
around_turned m a b x y (u ∷ []) g n t = refl
around_turned m a b x y (u ∷ (v ∷ p)) g n t =
    let first = turned_neighbours m a b x y n t u v (g.within 0 (omega arith)) (g.within 1 (omega arith))
    (g.apart 0 (omega arith)) in
    omega (arith, first, around_turned m a b x y (v ∷ p) (good_tail m u (v ∷ p) g) n t)

pub around_flip : (m a b i : ℕ) (p : List ℕ) → b ≤ m → a ≢ b → Good m p →
    (around a (digit m i) p + around a (digit m (flip m b i)) p) % 2 ≡ links (on_pair a b) p % 2
around_flip m a b i p l n g = around_turned m a b (digit m i) (digit m (flip m b i)) p g n (flip_turned m b i l)
