-- The standing after a stretch of labels. In order: one stretch after another; equal values; a stretch in which nothing
-- passes the second best changes nothing; one turn of a search, its beginning and its end, one stretch more.
-- Not here: what the standing says of all labels (Leading).  Assumes nothing.
use Prim.Native.Nat.{ℕ, zero, suc, ◌+◌, ◌≤◌, ◌<◌}
use native.Mathlib.Nat.{add-zero, add-suc, add_assoc, le_refl, le_step}
use native.Mathlib.Numerals.{add-one}
use mathlib.Core.Path.{◌≡◌, refl, sym, ◌∙◌, ap}
use Rattle.standing.specs.declared.Standing.{Standing}
use Rattle.standing.specs.Lead.{better, lead_from}
use Rattle.standing.proofs.Passing.{better_kept}

lead_from_add : (l : ℕ) (f : ℕ → ℕ) (a b : ℕ) (st : Standing) →
    lead_from l f (a + b) st ≡ lead_from (l + a) (λ j. f (a + j)) b (lead_from l f a st)
unfolding lead_from
lead_from_add l f a zero st = rw (add-zero a)
lead_from_add l f a (suc b) st = rw (add-suc a b, lead_from_add l f a b st, add_assoc l a b)

pub lead_from_cong : (l : ℕ) (f g : ℕ → ℕ) (n : ℕ) (st : Standing) → ((j : ℕ) → j < n → f j ≡ g j) →
    lead_from l f n st ≡ lead_from l g n st
unfolding lead_from
lead_from_cong l f g zero st e = refl
lead_from_cong l f g (suc n) st e =
    rw (lead_from_cong l f g n st (λ j h. e j (le_step h)), e n (le_refl (suc n)))

pub lead_from_kept : (l : ℕ) (f : ℕ → ℕ) (n : ℕ) (st : Standing) → ((j : ℕ) → j < n → f j ≤ st.second) →
    lead_from l f n st ≡ st
unfolding lead_from
lead_from_kept l f zero st h = refl
lead_from_kept l f (suc n) st h =
    ap (λ (s : Standing). better s (f n) (l + n)) (lead_from_kept l f n st (λ j b. h j (le_step b)))
    ∙ better_kept st (f n) (l + n) (h n (le_refl (suc n)))

-- one turn of a search
pub lead_from_turn : (l : ℕ) (f : ℕ → ℕ) (n v k : ℕ) (st₀ st : Standing) → st ≡ lead_from l f n st₀ → v ≡ f n →
    k ≡ l + n → better st v k ≡ lead_from l f (n + 1) st₀
unfolding lead_from
lead_from_turn l f n v k st₀ st e p q = rw (add-one, e, p, q)

-- before the first
pub lead_from_none : (l : ℕ) (f : ℕ → ℕ) (n : ℕ) (st : Standing) → n ≡ 0 → st ≡ lead_from l f n st
unfolding lead_from
lead_from_none l f n st e = rw e

-- the end of a search: all n are gone through
pub lead_from_end : (l : ℕ) (f : ℕ → ℕ) (k n : ℕ) (st₀ st : Standing) → st ≡ lead_from l f k st₀ → k ≡ n →
    st ≡ lead_from l f n st₀
lead_from_end l f k n st₀ st e q = e ∙ ap (λ (i : ℕ). lead_from l f i st₀) q

-- one stretch more, from l' on: its values g are f's
pub lead_from_stretch : (l : ℕ) (f : ℕ → ℕ) (k n l' : ℕ) (g : ℕ → ℕ) (st₀ st r : Standing) → st ≡ lead_from l f k st₀ →
    l' ≡ l + k → ((j : ℕ) → j < n → g j ≡ f (k + j)) → r ≡ lead_from l' g n st → r ≡ lead_from l f (k + n) st₀
lead_from_stretch l f k n l' g st₀ st r e p same q =
    q ∙ lead_from_cong l' g (λ j. f (k + j)) n st same ∙ rw (p, e) (sym (lead_from_add l f k n st₀))
