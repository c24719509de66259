-- How many paths there are: m ! / 2, for every m from 2 on; and the twelve of m = 4, written out.
-- In order: the orders of n numbers are n ! many; tests of order; the orders of 1, .., m, none twice,
-- as many rising from first to last as falling; the law; the paths in use are among them, and are paths; w is the
-- greatest that lets them; the paths of 4.
-- Not here: which lists are paths (Members), their order (Increasing).  Assumes nothing.
use Prim.Native.Nat.{ℕ, zero, suc, ◌+◌, ◌-◌, ◌*◌, ◌≤◌, ◌<◌}
use native.Mathlib.Nat.{le_antisymm, lt_of_lt_of_le}
use native.Mathlib.Decide.{dec_lt}
use native.Mathlib.Omega.{arith}
use mathlib.Core.Path.{◌≡◌, refl, ◌∙◌, ap, subst}
use mathlib.Core.Logic.{◌≢◌}
use mathlib.Core.Bool.{Bool, true, not, ◌&&◌}
use mathlib.Core.List.{List, [], ◌∷◌, map, flat_map, reverse, Memᴰ}
use lib.Dec.{T, leb, ltb}
use lib.ListN.{length, length-map}
use borrow.Author.Tests.{lt-ltb, le-ltb, leb-true, ltb-true}
use Rattle.range.specs.Below.{◌!, list_below, all_below}
use Rattle.range.proofs.Tests.{and_left, and_right, all_below_at}
use Rattle.rules.specs.Shape.{greatest_m, in_m, paths_in_use, path_bits}
use Rattle.rules.proofs.Range.{in_m_least, in_m_le}
use Rattle.rules.specs.Path.{IsPath, head_of, last_of, keep, without, orders, up_to, paths, path_at, Before}
use Rattle.rules.proofs.OrderLaws.{before_distinct}
use Rattle.paths.proofs.Times.{Distinct, distinct_once, distinct_without, length_without}
use Rattle.paths.proofs.Orders.{IsOrder, orders_is_order, is_order_orders}
use Rattle.paths.proofs.UpTo.{length_up_to, up_to_distinct}
use Rattle.paths.proofs.Members.{path_at_is_path}
use Rattle.paths.proofs.Sorted.{sorted_imp}
use Rattle.paths.proofs.Increasing.{up_to_sorted, orders_sorted}
use Rattle.paths.proofs.Counts.{Single, length_flat_map, length_keep_not, length_keep_le}
use Rattle.paths.proofs.Reversed.{is_order_reverse, head_of_reverse, last_of_reverse, reverse_inj, ends_differ}

pub length_orders : (n : ℕ) (xs : List ℕ) → length xs ≡ n → Distinct xs → length (orders n xs) ≡ n !
unfolding orders ◌!
length_orders zero xs l u = refl
length_orders (suc n) xs l u =
    length_flat_map (λ x. map (λ p. x ∷ p) (orders n (without x xs))) xs (n !)
    (λ x i. each x i (λ e. length_orders n (without x xs) e (distinct_without x xs u)))
    ∙ ap (λ (k : ℕ). k * n !) l
  where
    each : (x : ℕ) → Memᴰ x xs → (length (without x xs) ≡ n → length (orders n (without x xs)) ≡ n !) →
        length (map (λ p. x ∷ p) (orders n (without x xs))) ≡ n !
    each x i c =
        length-map (orders n (without x xs)) (λ p. x ∷ p)
        ∙ c (omega (arith, length_without x xs, distinct_once x xs u i))

-- whether a list rises, or falls, from its first to its last
abbrev rises : List ℕ → Bool
rises p = ltb (head_of p) (last_of p)

abbrev falls : List ℕ → Bool
falls p = ltb (last_of p) (head_of p)

ltb_other : (a b : ℕ) → a ≢ b → ltb b a ≡ not (ltb a b)
ltb_other a b n = at (dec_lt a b)
  where
    at : Dec (a < b) → ltb b a ≡ not (ltb a b)
    at (yes l) = rw (lt-ltb a b l) (le-ltb b a (omega arith))
    at (no k) = rw (le-ltb a b (omega arith)) (lt-ltb b a (omega arith))

module _ (m : ℕ) where
  orders_single : Single (orders m (up_to m))
  orders_single =
      sorted_imp Before (λ p q. p ≢ q) (orders m (up_to m)) (λ p q b. before_distinct b)
      (orders_sorted m (up_to m) (up_to_sorted m))

  is_order_of : (p : List ℕ) → Memᴰ p (orders m (up_to m)) → IsOrder (up_to m) p
  is_order_of p i = orders_is_order m (up_to m) p (length_up_to m) (up_to_distinct m) i

  reverse_mem : (p : List ℕ) → Memᴰ p (orders m (up_to m)) → Memᴰ (reverse p) (orders m (up_to m))
  reverse_mem p i =
      is_order_orders m (up_to m) (reverse p) (length_up_to m) (up_to_distinct m)
      (is_order_reverse (up_to m) p (is_order_of p i))

  -- an order rises exactly when it does not fall
  falls_not : (p : List ℕ) → 2 ≤ m → Memᴰ p (orders m (up_to m)) → falls p ≡ not (rises p)
  falls_not p h i =
      let o : IsOrder (up_to m) p = is_order_of p i in
      ltb_other (head_of p) (last_of p)
      (ends_differ p (λ k. omega (arith, o.same k, up_to_distinct m k)) (omega (arith, o.long, length_up_to m)))

  -- as many rise as fall
  rising_falling : length (keep rises (orders m (up_to m))) ≡ length (keep falls (orders m (up_to m)))
  rising_falling =
      le_antisymm
      (length_keep_le rises falls reverse (orders m (up_to m)) reverse_inj orders_single
      (λ p i e. (reverse_mem p i, rw (head_of_reverse p, last_of_reverse p) e)))
      (length_keep_le falls rises reverse (orders m (up_to m)) reverse_inj orders_single
      (λ p i e. (reverse_mem p i, rw (head_of_reverse p, last_of_reverse p) e)))

  pub length_paths : 2 ≤ m → length (paths m) + length (paths m) ≡ m !
  unfolding paths
  length_paths h =
      omega (
        arith,
        rising_falling,
        length_orders m (up_to m) (length_up_to m) (up_to_distinct m),
        length_keep_not rises falls (orders m (up_to m)) (λ p i. falls_not p h i),
      )

-- twice 2^w is at most m !, and four times is above it
enough : ℕ → Bool
enough m = leb (2 * paths_in_use m) (m !)

short : ℕ → Bool
short m = ltb (m !) (4 * paths_in_use m)

fits_test : all_below (greatest_m - 1) (λ i. enough (i + 2) && short (i + 2)) ≡ true
unfolding all_below path_bits ◌! enough short
fits_test = refl

fits_at : (m : ℕ) → T (in_m m) → (enough m && short m) ≡ true
fits_at m t =
    let e : m - 2 + 2 ≡ m = omega (arith, in_m_least m t) in
    subst (λ (n : ℕ). (enough n && short n) ≡ true) e
    (all_below_at (greatest_m - 1) _ fits_test (m - 2) (omega (arith, in_m_least m t, in_m_le m t)))

-- the numbers of the paths in use are numbers of paths
pub paths_in_use_le : (m : ℕ) → T (in_m m) → paths_in_use m ≤ length (paths m)
unfolding enough
paths_in_use_le m t =
    let b : 2 * paths_in_use m ≤ m ! = leb-true _ _ (and_left (enough m) (short m) (fits_at m t)) in
    omega (arith, length_paths m (in_m_least m t))

pub used_lt : (m n : ℕ) → T (in_m m) → n < paths_in_use m → n < length (paths m)
used_lt m n range h = lt_of_lt_of_le h (paths_in_use_le m range)

pub used_is_path : (m n : ℕ) → T (in_m m) → n < paths_in_use m → IsPath m (path_at m n)
used_is_path m n range h = path_at_is_path m n (used_lt m n range h)

-- and one bit more would not do: w is the greatest
pub paths_in_use_most : (m : ℕ) → T (in_m m) → length (paths m) < 2 * paths_in_use m
unfolding short
paths_in_use_most m t =
    let b : m ! < 4 * paths_in_use m = ltb-true _ _ (and_right (enough m) (short m) (fits_at m t)) in
    omega (arith, length_paths m (in_m_least m t))

-- the twelve of document 01
pub paths_four : paths 4 ≡
    (1 ∷ 2 ∷ 3 ∷ 4 ∷ []) ∷ (1 ∷ 2 ∷ 4 ∷ 3 ∷ []) ∷ (1 ∷ 3 ∷ 2 ∷ 4 ∷ []) ∷ (1 ∷ 3 ∷ 4 ∷ 2 ∷ []) ∷
    (1 ∷ 4 ∷ 2 ∷ 3 ∷ []) ∷ (1 ∷ 4 ∷ 3 ∷ 2 ∷ []) ∷ (2 ∷ 1 ∷ 3 ∷ 4 ∷ []) ∷ (2 ∷ 1 ∷ 4 ∷ 3 ∷ []) ∷
    (2 ∷ 3 ∷ 1 ∷ 4 ∷ []) ∷ (2 ∷ 4 ∷ 1 ∷ 3 ∷ []) ∷ (3 ∷ 1 ∷ 2 ∷ 4 ∷ []) ∷ (3 ∷ 2 ∷ 1 ∷ 4 ∷ []) ∷ []
unfolding paths orders up_to list_below without keep flat_map
paths_four = refl
