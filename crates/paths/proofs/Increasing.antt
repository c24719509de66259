-- THE LAW of order: the paths of m stand in dictionary order, hence each once.
-- In order: lists that begin with one number, and with one number after the other; 1, .., m; the orders of
-- an increasing list; the paths; a path has one number.
-- Not here: which lists are paths (Members); that the order has a direction (rules, OrderLaws).  Assumes nothing.
use Prim.Native.Nat.{ℕ, zero, suc, ◌<◌, suc-le-suc}
use native.Mathlib.Decide.{dec_lt}
use native.Mathlib.Omega.{arith}
use mathlib.Core.Path.{◌≡◌, sym}
use mathlib.Core.Bool.{not}
use mathlib.Core.List.Memᴰ
use mathlib.Core.List.{List, [], ◌∷◌, map, flat_map, Memᴰ}
use lib.Dec.{eqb, ltb}
use lib.ListN.{length}
use Rattle.rules.specs.Path.{Before, here, later, without, orders, head_of, last_of, up_to, paths, path_at}
use Rattle.rules.proofs.OrderLaws.{before_distinct}
use Rattle.paths.proofs.Listed.{flat_map_mem}
use Rattle.paths.proofs.Sorted.{Sorted, none, first, sorted_at, sorted_keep, sorted_append, sorted_list_below}

-- the lists that begin with x keep their order
sorted_cons : (x : ℕ) (ps : List (List ℕ)) → Sorted Before ps → Sorted Before (map (λ p. x ∷ p) ps)
sorted_cons x [] s = none
sorted_cons x (p ∷ ps) (first a s) = first (λ q i. at q (Memᴰ.of_map (λ p. x ∷ p) ps i)) (sorted_cons x ps s)
  where
    at : (q : List ℕ) → ((p : List ℕ) × Memᴰ p ps × (x ∷ p ≡ q)) → Before (x ∷ p) q
    at q r = rw (← r.2) (later (a r.0 r.1))

-- lists that begin with x, for x of an increasing list, each time in order
sorted_flat_map : (f : ℕ → List (List ℕ)) (xs : List ℕ) → ((x : ℕ) → Sorted Before (f x)) → Sorted (λ x y. x < y) xs →
    Sorted Before (flat_map (λ x. map (λ p. x ∷ p) (f x)) xs)
unfolding flat_map
sorted_flat_map f [] c s = none
sorted_flat_map f (x ∷ xs) c (first a s) =
    sorted_append Before (map (λ p. x ∷ p) (f x)) (flat_map (λ y. map (λ p. y ∷ p) (f y)) xs)
    (sorted_cons x (f x) (c x)) (sorted_flat_map f xs c s)
    (λ p q i j. at p q (Memᴰ.of_map (λ p. x ∷ p) (f x) i) (flat_map_mem (λ y. map (λ p. y ∷ p) (f y)) q xs j))
  where
    at : (p q : List ℕ) → ((v : List ℕ) × Memᴰ v (f x) × (x ∷ v ≡ p)) →
        ((y : ℕ) × Memᴰ y xs × Memᴰ q (map (λ p. y ∷ p) (f y))) → Before p q
    at p q r t =
        let w = Memᴰ.of_map (λ p. t.0 ∷ p) (f t.0) t.2 in
        rw (← r.2, ← w.2) (here (a t.0 t.1))

pub up_to_sorted : (m : ℕ) → Sorted (λ x y. x < y) (up_to m)
unfolding up_to
up_to_sorted m = sorted_list_below m suc (λ i j l. suc-le-suc l)

-- the orders of an increasing list stand in dictionary order
pub orders_sorted : (n : ℕ) (xs : List ℕ) → Sorted (λ x y. x < y) xs → Sorted Before (orders n xs)
unfolding orders without
orders_sorted zero xs s = first (λ q i. absurd (Memᴰ.not-nil i)) none
orders_sorted (suc n) xs s =
    sorted_flat_map (λ x. orders n (without x xs)) xs
    (λ x. orders_sorted n (without x xs) (sorted_keep (λ v w. v < w) (λ y. not (eqb y x)) xs s)) s

pub paths_sorted : (m : ℕ) → Sorted Before (paths m)
unfolding paths
paths_sorted m =
    sorted_keep Before (λ p. ltb (head_of p) (last_of p)) (orders m (up_to m))
    (orders_sorted m (up_to m) (up_to_sorted m))

pub paths_increasing : (m i j : ℕ) → i < j → j < length (paths m) → Before (path_at m i) (path_at m j)
unfolding path_at
paths_increasing m i j l h = sorted_at Before (paths m) [] i j (paths_sorted m) l h

pub path_at_inj : (m i j : ℕ) → i < length (paths m) → j < length (paths m) → path_at m i ≡ path_at m j → i ≡ j
path_at_inj m i j a b e = at (dec_lt i j) (dec_lt j i)
  where
    at : Dec (i < j) → Dec (j < i) → i ≡ j
    at (yes l) d = absurd (before_distinct (paths_increasing m i j l b) e)
    at (no n) (yes l) = absurd (before_distinct (paths_increasing m j i l a) (sym e))
    at (no n) (no k) = omega arith
