-- Laws of dictionary order: rules' Path, Before. It has a direction: what comes before a list does not come after it,
-- and the order goes on from list to list. In order: asymmetric; so no list comes before itself, or before an equal
-- one; transitive.
-- Not here: that paths and labels stand in this order (crates paths and words).  Assumes nothing.
use Prim.Native.Nat.{ℕ, ◌≤◌}
use native.Mathlib.Omega.{arith}
use mathlib.Core.Path.{◌≡◌, refl, sym, subst}
use mathlib.Core.List.{List, ◌∷◌}
use Rattle.rules.specs.Path.{Before, here, later}

-- what the order says of first entries, and of what follows equal ones
head_le : {x y : ℕ} {xs ys : List ℕ} → Before (x ∷ xs) (y ∷ ys) → x ≤ y
head_le (here l) = omega arith
head_le (later p) = omega arith

before_tail : {x y : ℕ} {xs ys : List ℕ} → Before (x ∷ xs) (y ∷ ys) → x ≡ y → Before xs ys
before_tail (here l) e = absurd (omega arith)
before_tail (later p) e = p

pub before_asymm : {xs ys : List ℕ} → Before xs ys → Before ys xs → ⊥
before_asymm (here l) q = omega (arith, head_le q)
before_asymm (later p) q = before_asymm p (before_tail q refl)

pub before_distinct : {xs ys : List ℕ} → Before xs ys → xs ≡ ys → ⊥
before_distinct {xs} {ys} p e = before_asymm p (subst (λ (zs : List ℕ). Before zs xs) e (subst (Before xs) (sym e) p))

pub before_trans : {xs ys zs : List ℕ} → Before xs ys → Before ys zs → Before xs zs
before_trans (here {x = x} l) (here {y = z} k) = here {x = x} {y = z} (omega arith)
before_trans (here l) (later q) = here l
before_trans (later p) (here k) = here k
before_trans (later p) (later q) = later (before_trans p q)
