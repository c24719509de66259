-- Label order: labels with smaller numbers come first in dictionary order: rules' Label and Path. In order: a label as
-- a numeral to base 2^h; dictionary order of lists put together; numerals in order; labels in order.
-- Not here: the parts of a label (Labels).  Assumes nothing.
use Prim.Native.Nat.{ℕ, zero, suc, ◌+◌, ◌*◌, ◌/◌, ◌%◌, ◌<◌}
use native.Mathlib.Nat.{div-add-mod'}
use native.Mathlib.Decide.{dec_lt}
use native.Mathlib.Omega.{arith}
use mathlib.Core.Path.{◌≡◌, ◌∙◌, ap}
use mathlib.Core.List.{List, [], ◌∷◌, ◌++◌}
use lib.Pow.{shr_mono}
use Rattle.range.specs.Below.{list_below}
use Rattle.range.proofs.Lists.{list_below_suc, list_below_cong}
use Rattle.rules.specs.Shape.{phases}
use Rattle.rules.specs.Path.{Before, here, later}
use Rattle.rules.specs.Label.{coefficient, constant, label_parts}
use Rattle.words.proofs.Labels.{label_path_zero, label_path_suc, coefficient_suc, coefficient_last}

-- l to base 2^h: all but the n lowest digits as one number, then those
numeral : ℕ → ℕ → ℕ → List ℕ
numeral h zero l = l ∷ []
numeral h (suc n) l = numeral h n (l / phases h) ++ (l % phases h ∷ [])

coefficients_suc : (h m l : ℕ) → list_below (suc m) (λ k. coefficient h (suc m) l (suc k))
    ≡ list_below m (λ k. coefficient h m (l / phases h) (suc k)) ++ (constant h (l / phases h) ∷ [])
coefficients_suc h m l =
    let f : ℕ → ℕ = λ k. coefficient h (suc m) l (suc k) in
    let g : ℕ → ℕ = λ k. coefficient h m (l / phases h) (suc k) in
    list_below_suc m f ∙ rw (coefficient_last h m l, list_below_cong m f g (λ k b. coefficient_suc h m l (suc k) b))

label_parts_suc : (h m l : ℕ) → label_parts h (suc m) l ≡ label_parts h m (l / phases h) ++ (constant h l ∷ [])
unfolding label_parts
label_parts_suc h m l = rw (label_path_suc, coefficients_suc h m l)

label_parts_numeral : (h m l : ℕ) → label_parts h m l ≡ numeral h (suc m) l
unfolding numeral label_parts constant list_below
label_parts_numeral h zero l = rw label_path_zero
label_parts_numeral h (suc m) l =
    label_parts_suc h m l ∙ ap (λ (xs : List ℕ). xs ++ (l % phases h ∷ [])) (label_parts_numeral h m (l / phases h))

before_front : {xs ys : List ℕ} (us vs : List ℕ) → Before xs ys → Before (xs ++ us) (ys ++ vs)
before_front us vs (here l) = here l
before_front us vs (later r) = later (before_front us vs r)

before_same : (xs : List ℕ) {us vs : List ℕ} → Before us vs → Before (xs ++ us) (xs ++ vs)
before_same [] r = r
before_same (x ∷ xs) r = later (before_same xs r)

-- where the quotients are equal, the remainders decide
remainder_lt : (q l k : ℕ) → l < k → l / q ≡ k / q → l % q < k % q
remainder_lt q l k b e =
    let p : k / q * q + l % q ≡ l = rw e at (div-add-mod' l q) in
    omega (arith, div-add-mod' k q)

numeral_order : (h n l k : ℕ) → l < k → Before (numeral h n l) (numeral h n k)
unfolding numeral
numeral_order h zero l k b = here b
numeral_order h (suc n) l k b =
    at (dec_lt (l / phases h) (k / phases h)) (numeral_order h n (l / phases h) (k / phases h))
  where
    at : Dec (l / phases h < k / phases h) →
        (l / phases h < k / phases h → Before (numeral h n (l / phases h)) (numeral h n (k / phases h))) →
        Before (numeral h (suc n) l) (numeral h (suc n) k)
    at (yes c) r = before_front (l % phases h ∷ []) (k % phases h ∷ []) (r c)
    at (no c) r =
        let e : l / phases h ≡ k / phases h = omega (arith, shr_mono {a = l} {b = k} h (omega arith)) in
        rw e (before_same (numeral h n (k / phases h)) (here (remainder_lt (phases h) l k b e)))

pub label_order : (h m l k : ℕ) → l < k → Before (label_parts h m l) (label_parts h m k)
label_order h m l k b = rw (label_parts_numeral h m l, label_parts_numeral h m k) (numeral_order h (suc m) l k b)
