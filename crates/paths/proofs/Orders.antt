-- What `orders n xs` lists, for n numbers without duplicates: the lists as long as xs in which each number stands
-- as often as in xs.
-- In order: such a list; with nothing in it, with one number first; what stands in an order; what is an order;
-- both together; a list in which enough stands and that has no room for more.
-- Not here: counts (Times), members of lists (Listed), paths (Members).  Assumes nothing.
use Prim.Native.Nat.{ℕ, zero, suc, ◌≤◌}
use native.Mathlib.Nat.{not-suc-le-zero}
use native.Mathlib.Decide.{ℕ_discrete}
use native.Mathlib.Omega.{arith}
use mathlib.Core.Path.{◌≡◌, refl}
use mathlib.Core.List.{List, [], ◌∷◌, map, Memᴰ}
use lib.ListN.{length}
use Rattle.rules.specs.Path.{times, without, orders}
use Rattle.paths.proofs.Times.{Distinct, times_here, times_there, times_without, times_without_other}
use Rattle.paths.proofs.Times.{mem_of_times, length_without}
use Rattle.paths.proofs.Times.{distinct_once, distinct_head, distinct_tail, distinct_without}
use Rattle.paths.proofs.Listed.{mem_flat_map, flat_map_mem}

-- as long as xs, and with the same elements
pub record IsOrder (xs p : List ℕ) : Type 0 where
  pub long : length p ≡ length xs
  pub same : (k : ℕ) → times k p ≡ times k xs

order_nil : (xs : List ℕ) → length xs ≡ 0 → IsOrder xs []
order_nil [] e = record { long = refl; same = λ k. refl }
order_nil (x ∷ xs) e = absurd (omega arith)

-- x first, and then an order of the others
order_cons : (x : ℕ) (xs q : List ℕ) → times x xs ≡ 1 → IsOrder (without x xs) q → IsOrder xs (x ∷ q)
unfolding times
order_cons x xs q o r = record {
  long = omega (arith, length_without x xs, r.long);
  same = λ k. omega (arith, r.same k, times_without x k xs o);
}

order_tail : (x : ℕ) (xs q : List ℕ) → times x xs ≡ 1 → IsOrder xs (x ∷ q) → IsOrder (without x xs) q
unfolding times
order_tail x xs q o r = record {
  long = omega (arith, length_without x xs, r.long);
  same = λ k. omega (arith, r.same k, times_without x k xs o);
}

long_without : (n x : ℕ) (xs : List ℕ) → times x xs ≡ 1 → length xs ≡ suc n → length (without x xs) ≡ n
long_without n x xs o e = omega (arith, length_without x xs)

pub orders_is_order : (n : ℕ) (xs p : List ℕ) → length xs ≡ n → Distinct xs →
    Memᴰ p (orders n xs) → IsOrder xs p
unfolding orders
orders_is_order zero xs p l u i = rw (mathlib.Core.List.Memᴰ.eq_of_singleton i) (order_nil xs l)
orders_is_order (suc n) xs p l u i =
    let r = flat_map_mem (λ x. map (λ q. x ∷ q) (orders n (without x xs))) p xs i in
    let x : ℕ = r.0 in
    let t = mathlib.Core.List.Memᴰ.of_map (λ q. x ∷ q) (orders n (without x xs)) r.2 in
    let o : times x xs ≡ 1 = distinct_once x xs u r.1 in
    let c = orders_is_order n (without x xs) t.0 (long_without n x xs o l) (distinct_without x xs u) t.1 in
    rw t.2 at (order_cons x xs t.0 o c)

pub is_order_orders : (n : ℕ) (xs p : List ℕ) → length xs ≡ n → Distinct xs →
    IsOrder xs p → Memᴰ p (orders n xs)
unfolding orders
is_order_orders zero xs [] l u r = mathlib.Core.List.Memᴰ.head refl
is_order_orders zero xs (x ∷ q) l u r = absurd (omega (arith, r.long))
is_order_orders (suc n) xs [] l u r = absurd (omega (arith, r.long))
is_order_orders (suc n) xs (x ∷ q) l u r =
    let i : Memᴰ x xs = mem_of_times x xs (omega (arith, r.same x, times_here x x q refl)) in
    let o : times x xs ≡ 1 = distinct_once x xs u i in
    let c : IsOrder (without x xs) q = order_tail x xs q o r in
    let t = is_order_orders n (without x xs) q (long_without n x xs o l) (distinct_without x xs u) c in
    mem_flat_map (λ y. map (λ s. y ∷ s) (orders n (without y xs))) x (x ∷ q) xs i
    (mathlib.Core.List.Memᴰ.map (λ s. x ∷ s) t)

order_put : (x : ℕ) (xs p : List ℕ) → times x p ≡ 1 → IsOrder xs (without x p) → IsOrder (x ∷ xs) p
unfolding times
order_put x xs p o r = record {
  long = omega (arith, length_without x p, r.long);
  same = λ k. omega (arith, r.same k, times_without x k p o);
}

-- each number stands in p at least as often as in xs
abbrev pub Each : List ℕ → List ℕ → Type 0
Each xs p = (k : ℕ) → times k xs ≤ times k p

each_without : (x : ℕ) (xs p : List ℕ) → Distinct (x ∷ xs) → Each (x ∷ xs) p → Each xs (without x p)
each_without x xs p u e k = at (ℕ_discrete x k)
  where
    at : Dec (x ≡ k) → times k xs ≤ times k (without x p)
    at (yes s) = rw (← s) (omega (arith, distinct_head x xs u))
    at (no d) = omega (arith, times_without_other x k p d, e k, times_there k x xs d)

-- a list no longer than xs, in which each number stands at least as often, is an order of xs
pub order_of_each : (xs p : List ℕ) → Distinct xs → length p ≤ length xs → Each xs p → IsOrder xs p
order_of_each [] [] u l e = record { long = refl; same = λ k. refl }
order_of_each [] (y ∷ p) u l e = absurd (not-suc-le-zero l)
order_of_each (x ∷ xs) p u l e =
    let one : 1 ≤ times x p = omega (arith, e x, times_here x x xs refl) in
    let short : length (without x p) ≤ length xs = omega (arith, length_without x p) in
    let r = order_of_each xs (without x p) (distinct_tail x xs u) short (each_without x xs p u e) in
    order_put x xs p (omega (arith, length_without x p, r.long)) r
