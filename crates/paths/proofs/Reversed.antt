-- Lists of numbers read backwards. In order: the same numbers as often; an order stays one; the ends change places;
-- equal backwards, equal forwards; the two ends of a list without duplicates differ.
-- Not here: how many paths there are (Number).  Assumes nothing.
use Prim.Native.Nat.{ℕ, ◌+◌, ◌≤◌}
use native.Mathlib.Omega.{arith}
use mathlib.Core.Path.{◌≡◌, refl, sym, ◌∙◌, ap}
use mathlib.Core.Logic.{◌≢◌}
use mathlib.Core.List.{List, [], ◌∷◌, reverse, reverse_aux, reverse-reverse, Memᴰ}
use lib.ListN.{length, length-reverse}
use Rattle.rules.specs.Path.{head_of, last_of, times}
use Rattle.paths.proofs.Times.{Distinct, times_of_mem, distinct_head}
use Rattle.paths.proofs.Orders.{IsOrder}

times_reverse_onto : (k : ℕ) (p r : List ℕ) → times k (reverse_aux p r) ≡ times k p + times k r
unfolding times
times_reverse_onto k [] r = omega arith
times_reverse_onto k (x ∷ p) r = omega (arith, times_reverse_onto k p (x ∷ r))

pub times_reverse : (k : ℕ) (p : List ℕ) → times k (reverse p) ≡ times k p
unfolding times
times_reverse k p = omega (arith, times_reverse_onto k p [])

pub is_order_reverse : (xs p : List ℕ) → IsOrder xs p → IsOrder xs (reverse p)
is_order_reverse xs p r = record { long = length-reverse p ∙ r.long; same = λ k. times_reverse k p ∙ r.same k }

head_of_reverse_onto : (x : ℕ) (p r : List ℕ) → head_of (reverse_aux (x ∷ p) r) ≡ last_of (x ∷ p)
head_of_reverse_onto x [] r = refl
head_of_reverse_onto x (y ∷ p) r = head_of_reverse_onto y p (x ∷ r)

pub head_of_reverse : (p : List ℕ) → head_of (reverse p) ≡ last_of p
head_of_reverse [] = refl
head_of_reverse (x ∷ p) = head_of_reverse_onto x p []

pub last_of_reverse : (p : List ℕ) → last_of (reverse p) ≡ head_of p
last_of_reverse p = sym (head_of_reverse (reverse p)) ∙ ap head_of (reverse-reverse p)

pub reverse_inj : (p q : List ℕ) → reverse p ≡ reverse q → p ≡ q
reverse_inj p q e = sym (reverse-reverse p) ∙ ap reverse e ∙ reverse-reverse q

last_mem : (x : ℕ) (p : List ℕ) → Memᴰ (last_of (x ∷ p)) (x ∷ p)
last_mem x [] = Memᴰ.head refl
last_mem x (y ∷ p) = Memᴰ.tail (last_mem y p)

pub ends_differ : (p : List ℕ) → Distinct p → 2 ≤ length p → head_of p ≢ last_of p
ends_differ [] d l e = omega arith
ends_differ (x ∷ []) d l e = omega arith
ends_differ (x ∷ (y ∷ p)) d l e =
    let i : 1 ≤ times x (y ∷ p) = rw (← e) at (times_of_mem (last_of (y ∷ p)) (y ∷ p) (last_mem y p)) in
    omega (arith, distinct_head x (y ∷ p) d)
