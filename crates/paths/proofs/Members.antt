-- THE LAW of members: the paths of m are exactly the orders of 1, .., m whose first is less than their last.
-- In order: a path is such an order; the law, each way and both; a path by its number; the elements of a path are
-- in 1..m, as members and by place, and no two are equal.
-- Not here: orders of any list (Orders), the order of the paths (Increasing).  Assumes nothing.
use Prim.Native.Nat.{ℕ, zero, suc, ◌≤◌, ◌<◌}
use native.Mathlib.Decide.{dec_le}
use native.Mathlib.Omega.{arith}
use mathlib.Core.Path.{◌∙◌}
use mathlib.Core.Logic.{◌≢◌}
use mathlib.Core.List.{List, [], Memᴰ}
use lib.Dec.{ltb}
use lib.ListN.{length, get_or}
use borrow.Author.Tests.{ltb-true, lt-ltb}
use Rattle.rules.specs.Path.{IsPath, head_of, last_of, times, orders, up_to, paths, path_at}
use Rattle.paths.proofs.Times.{Distinct, times_of_mem, distinct_at, get_or_mem}
use Rattle.paths.proofs.Listed.{mem_keep, keep_mem}
use Rattle.paths.proofs.Orders.{IsOrder, orders_is_order, is_order_orders, order_of_each}
use Rattle.paths.proofs.UpTo.{length_up_to, times_up_to, times_up_to_zero, times_up_to_above, in_up_to, up_to_distinct}

pub is_path_is_order : (m : ℕ) (p : List ℕ) → IsPath m p → IsOrder (up_to m) p
is_path_is_order m p r = order_of_each (up_to m) p (up_to_distinct m) (omega (arith, length_up_to m, r.long)) enough
  where
    enough : (k : ℕ) → times k (up_to m) ≤ times k p
    enough zero = omega (arith, times_up_to_zero m)
    enough (suc k) = at (dec_le (suc k) m)
      where
        at : Dec (suc k ≤ m) → times (suc k) (up_to m) ≤ times (suc k) p
        at (yes l) = omega (arith, up_to_distinct m (suc k), r.each (suc k) (omega arith) l)
        at (no d) = omega (arith, times_up_to_above m (suc k) (omega arith))

paths_is_path : (m : ℕ) (p : List ℕ) → Memᴰ p (paths m) → IsPath m p
unfolding paths
paths_is_path m p i =
    let r = keep_mem (λ q. ltb (head_of q) (last_of q)) p (orders m (up_to m)) i in
    let o : IsOrder (up_to m) p = orders_is_order m (up_to m) p (length_up_to m) (up_to_distinct m) r.0 in
    record {
      long = o.long ∙ length_up_to m;
      each = λ k a b. o.same k ∙ times_up_to m k a b;
      ends = ltb-true (head_of p) (last_of p) r.1;
    }

is_path_paths : (m : ℕ) (p : List ℕ) → IsPath m p → Memᴰ p (paths m)
unfolding paths
is_path_paths m p r =
    mem_keep (λ q. ltb (head_of q) (last_of q)) p (orders m (up_to m))
    (is_order_orders m (up_to m) p (length_up_to m) (up_to_distinct m) (is_path_is_order m p r))
    (lt-ltb (head_of p) (last_of p) r.ends)

pub path_iff : (m : ℕ) (p : List ℕ) → (Memᴰ p (paths m) → IsPath m p) × (IsPath m p → Memᴰ p (paths m))
path_iff m p = (paths_is_path m p, is_path_paths m p)

pub path_at_is_path : (m n : ℕ) → n < length (paths m) → IsPath m (path_at m n)
unfolding path_at
path_at_is_path m n h = paths_is_path m (get_or (paths m) n []) (get_or_mem (paths m) n [] h)

pub is_path_within : (m : ℕ) (p : List ℕ) → IsPath m p → (k : ℕ) → Memᴰ k p → (1 ≤ k) × (k ≤ m)
is_path_within m p r k i = in_up_to m k (rw ((is_path_is_order m p r).same k) at (times_of_mem k p i))

pub is_path_in : (m : ℕ) (p : List ℕ) → IsPath m p → (i : ℕ) → i < length p → (1 ≤ get_or p i 0) × (get_or p i 0 ≤ m)
is_path_in m p r i h = is_path_within m p r (get_or p i 0) (get_or_mem p i 0 h)

pub is_path_unique : (m : ℕ) (p : List ℕ) → IsPath m p → Distinct p
is_path_unique m p r k = omega (arith, (is_path_is_order m p r).same k, up_to_distinct m k)

pub is_path_distinct : (m : ℕ) (p : List ℕ) → IsPath m p → (i j : ℕ) → i < j → j < length p →
    get_or p i 0 ≢ get_or p j 0
is_path_distinct m p r i j l h = distinct_at p i j (is_path_unique m p r) l h
