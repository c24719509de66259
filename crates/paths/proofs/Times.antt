-- How often a number stands in a list. In order: at the head and past it; in two lists joined; members;
-- what `without` leaves; lists without duplicates, and their elements by place.
-- Not here: orders (Orders).  Assumes nothing.
use Prim.Native.Nat.{ℕ, zero, suc, ◌+◌, ◌≤◌, ◌<◌}
use native.Mathlib.Nat.{not-suc-le-zero, le_of_suc-le-suc}
use native.Mathlib.Decide.{ℕ_discrete}
use native.Mathlib.Omega.{arith}
use mathlib.Core.Path.{◌≡◌, refl, sym, ◌∙◌, ap}
use mathlib.Core.Logic.{◌≢◌, ◌⊎◌, inl, inr}
use mathlib.Core.List.Memᴰ
use mathlib.Core.List.{List, [], ◌∷◌, ◌++◌, Memᴰ}
use lib.Dec.{eqb}
use lib.ListN.{length, get_or}
use borrow.Author.Tests.{eq-eqb, ne_eqb}
use Rattle.range.specs.Below.{one_if}
use Rattle.rules.specs.Path.{times, keep, without}

-- the head, and the rest
pub times_here : (k x : ℕ) (xs : List ℕ) → x ≡ k → times k (x ∷ xs) ≡ suc (times k xs)
unfolding times
times_here k x xs e = rw (eq-eqb x k e) (omega arith)

pub times_there : (k x : ℕ) (xs : List ℕ) → x ≢ k → times k (x ∷ xs) ≡ times k xs
unfolding times
times_there k x xs d = rw (ne_eqb x k d) (omega arith)

pub times_tail_le : (k x : ℕ) (xs : List ℕ) → times k xs ≤ times k (x ∷ xs)
unfolding times
times_tail_le k x xs = omega arith

pub times_append : (k : ℕ) (xs ys : List ℕ) → times k (xs ++ ys) ≡ times k xs + times k ys
unfolding times
times_append k [] ys = omega arith
times_append k (x ∷ xs) ys = omega (arith, times_append k xs ys)

-- a member stands at least once, and what stands at least once is a member
pub times_of_mem : (k : ℕ) (xs : List ℕ) → Memᴰ k xs → 1 ≤ times k xs
times_of_mem k [] i = absurd (Memᴰ.not-nil i)
times_of_mem k (x ∷ xs) i = at (λ j. times_of_mem k xs j) (Memᴰ.cases_cons i)
  where
    at : (Memᴰ k xs → 1 ≤ times k xs) → (k ≡ x) ⊎ Memᴰ k xs → 1 ≤ times k (x ∷ xs)
    at f (inl e) = omega (arith, times_here k x xs (sym e))
    at f (inr j) = omega (arith, times_tail_le k x xs, f j)

pub mem_of_times : (k : ℕ) (xs : List ℕ) → 1 ≤ times k xs → Memᴰ k xs
unfolding times
mem_of_times k [] h = absurd (not-suc-le-zero h)
mem_of_times k (x ∷ xs) h = at (ℕ_discrete x k) (λ l. mem_of_times k xs l)
  where
    at : Dec (x ≡ k) → (1 ≤ times k xs → Memᴰ k xs) → Memᴰ k (x ∷ xs)
    at (yes e) f = Memᴰ.head (sym e)
    at (no d) f = Memᴰ.tail (f (omega (arith, times_there k x xs d)))

-- the elements that `without x` leaves
without_here : (x y : ℕ) (xs : List ℕ) → y ≡ x → without x (y ∷ xs) ≡ without x xs
unfolding without keep
without_here x y xs e = rw (eq-eqb y x e, keep)

without_there : (x y : ℕ) (xs : List ℕ) → y ≢ x → without x (y ∷ xs) ≡ y ∷ without x xs
unfolding without keep
without_there x y xs d = rw (ne_eqb y x d, keep)

pub times_without_same : (x : ℕ) (xs : List ℕ) → times x (without x xs) ≡ 0
unfolding times without keep
times_without_same x [] = refl
times_without_same x (y ∷ xs) = at (ℕ_discrete y x) (times_without_same x xs)
  where
    at : Dec (y ≡ x) → times x (without x xs) ≡ 0 → times x (without x (y ∷ xs)) ≡ 0
    at (yes e) z = ap (times x) (without_here x y xs e) ∙ z
    at (no d) z = ap (times x) (without_there x y xs d) ∙ times_there x y (without x xs) d ∙ z

pub times_without_other : (x k : ℕ) (xs : List ℕ) → x ≢ k → times k (without x xs) ≡ times k xs
unfolding times without keep
times_without_other x k [] n = refl
times_without_other x k (y ∷ xs) n = at (ℕ_discrete y x) (times_without_other x k xs n)
  where
    at : Dec (y ≡ x) → times k (without x xs) ≡ times k xs → times k (without x (y ∷ xs)) ≡ times k (y ∷ xs)
    at (yes e) z = ap (times k) (without_here x y xs e) ∙ z ∙ sym (times_there k y xs (λ f. n (sym e ∙ f)))
    at (no d) z = ap (times k) (without_there x y xs d) ∙ ap (λ (t : ℕ). one_if (eqb y k) + t) z

pub length_without : (x : ℕ) (xs : List ℕ) → length (without x xs) + times x xs ≡ length xs
unfolding times without keep
length_without x [] = refl
length_without x (y ∷ xs) = at (ℕ_discrete y x) (length_without x xs)
  where
    at : Dec (y ≡ x) → length (without x xs) + times x xs ≡ length xs →
        length (without x (y ∷ xs)) + times x (y ∷ xs) ≡ suc (length xs)
    at (yes e) z = omega (arith, ap length (without_here x y xs e), times_here x y xs e)
    at (no d) z = omega (arith, ap length (without_there x y xs d), times_there x y xs d)

-- x put back where it stood once
pub times_without : (x k : ℕ) (xs : List ℕ) → times x xs ≡ 1 → times k (x ∷ without x xs) ≡ times k xs
times_without x k xs o = at (ℕ_discrete x k)
  where
    at : Dec (x ≡ k) → times k (x ∷ without x xs) ≡ times k xs
    at (yes e) = rw (← e) (omega (arith, times_here x x (without x xs) refl, times_without_same x xs))
    at (no d) = times_there k x (without x xs) d ∙ times_without_other x k xs d

-- no number stands twice
abbrev pub Distinct : List ℕ → Type 0
Distinct xs = (k : ℕ) → times k xs ≤ 1

pub distinct_tail : (x : ℕ) (xs : List ℕ) → Distinct (x ∷ xs) → Distinct xs
distinct_tail x xs u k = omega (arith, u k, times_tail_le k x xs)

-- the head does not stand in the rest
pub distinct_head : (x : ℕ) (xs : List ℕ) → Distinct (x ∷ xs) → times x xs ≡ 0
distinct_head x xs u = omega (arith, u x, times_here x x xs refl)

pub distinct_once : (k : ℕ) (xs : List ℕ) → Distinct xs → Memᴰ k xs → times k xs ≡ 1
distinct_once k xs u i = omega (arith, u k, times_of_mem k xs i)

pub distinct_without : (x : ℕ) (xs : List ℕ) → Distinct xs → Distinct (without x xs)
distinct_without x xs u k = at (ℕ_discrete x k)
  where
    at : Dec (x ≡ k) → times k (without x xs) ≤ 1
    at (yes e) = rw (← e) (omega (arith, times_without_same x xs))
    at (no d) = omega (arith, u k, times_without_other x k xs d)

module _ {A : Type 0} where
  pub get_or_mem : (xs : List A) (i : ℕ) (d : A) → i < length xs → Memᴰ (get_or xs i d) xs
  get_or_mem [] i d h = absurd (not-suc-le-zero h)
  get_or_mem (x ∷ xs) zero d h = Memᴰ.head refl
  get_or_mem (x ∷ xs) (suc i) d h = Memᴰ.tail (get_or_mem xs i d (le_of_suc-le-suc h))

pub distinct_at : (p : List ℕ) (i j : ℕ) → Distinct p → i < j → j < length p → get_or p i 0 ≢ get_or p j 0
distinct_at [] i j u l h e = not-suc-le-zero h
distinct_at (x ∷ p) i zero u l h e = not-suc-le-zero l
distinct_at (x ∷ p) zero (suc j) u l h e =
    omega (
      arith,
      distinct_head x p u,
      rw (← e) at (times_of_mem (get_or p j 0) p (get_or_mem p j 0 (le_of_suc-le-suc h))),
    )
distinct_at (x ∷ p) (suc i) (suc j) u l h e =
    distinct_at p i j (distinct_tail x p u) (le_of_suc-le-suc l) (le_of_suc-le-suc h) e
