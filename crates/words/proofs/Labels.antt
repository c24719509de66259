-- Laws of label numbers: rules' Label. A label number is a numeral to base 2^h: the path number, then the coefficients
-- c_1, .., c_m, then the constant, which stands lowest. In order: bounds; the parts of a label without its
-- lowest digit; the parts determine the label; the number of given parts, and its parts; the bits of a message number.
-- Not here: message numbers (rules, Messages), label order (Order), words (Readings).  Assumes nothing.
use Prim.Native.Nat.{ℕ, zero, suc, ◌+◌, ◌-◌, ◌*◌, ◌/◌, ◌%◌, ◌^◌, ◌≤◌, ◌<◌}
use native.Mathlib.Nat.{pow-zero, pow-succ', mul-suc, mod-lt, div-div-eq-div-mul, div-add-mod'}
use native.Mathlib.Nat.{le_refl, div-one, mul-one, mul_comm, suc-mul}
use native.Mathlib.Decide.{ℕ_discrete}
use native.Mathlib.Omega.{arith}
use mathlib.Core.Path.{◌≡◌, refl, sym, ◌∙◌}
use lib.Arith.{digits_lt, digits_div, digits_mod}
use lib.Pow.{pow_pos, pow-add, shr_lt}
use Rattle.rules.specs.Shape.{phases, paths_in_use, path_bits}
use Rattle.rules.specs.Label.{labels, label_path, coefficient, constant, label_of}
use Rattle.rules.proofs.Range.{phases_pow}

pub coefficient_lt : (h m l k : ℕ) → coefficient h m l k < phases h
unfolding coefficient
coefficient_lt h m l k = mod-lt (l / phases h ^ (m + 1 - k)) (pow_pos h)

pub constant_lt : (h l : ℕ) → constant h l < phases h
unfolding constant
constant_lt h l = mod-lt l (pow_pos h)

pub label_path_lt : (h m l : ℕ) → l < labels h m → label_path h m l < paths_in_use m
unfolding label_path
label_path_lt h m l b = rw phases_pow (shr_lt (path_bits m) (h * (m + 1)) b)

-- the label without its lowest digit: its coefficients are the ones before the last, which is its constant
over_suc : (q l n : ℕ) → l / q ^ suc n ≡ l / q / q ^ n
over_suc q l n = rw (pow-succ', div-div-eq-div-mul)

pub over_one : (q l : ℕ) → l / q ^ 1 ≡ l / q
over_one q l = rw (over_suc q l 0, pow-zero) (div-one (l / q))

pub label_path_zero : (h l : ℕ) → label_path h 0 l ≡ l / phases h
unfolding label_path
label_path_zero h l = over_one (phases h) l

pub label_path_suc : (h m l : ℕ) → label_path h (suc m) l ≡ label_path h m (l / phases h)
unfolding label_path
label_path_suc h m l =
    let e : suc m + 1 ≡ suc (m + 1) = omega arith in
    rw e (over_suc (phases h) l (m + 1))

pub coefficient_suc : (h m l j : ℕ) → j ≤ m → coefficient h (suc m) l j ≡ coefficient h m (l / phases h) j
unfolding coefficient
coefficient_suc h m l j b =
    let e : suc m + 1 - j ≡ suc (m + 1 - j) = omega arith in
    rw (e, over_suc (phases h) l (m + 1 - j))

pub coefficient_last : (h m l : ℕ) → coefficient h (suc m) l (suc m) ≡ constant h (l / phases h)
unfolding coefficient constant
coefficient_last h m l =
    let e : suc m + 1 - suc m ≡ 1 = omega arith in
    rw (e, over_one (phases h) l)

-- a number is its quotient and its remainder
same_by_parts : (q a b : ℕ) → a / q ≡ b / q → a % q ≡ b % q → a ≡ b
same_by_parts q a b d r = sym (div-add-mod' a q) ∙ rw (d, r) (div-add-mod' b q)

pub label_inj : (h m l k : ℕ) → label_path h m l ≡ label_path h m k →
    ((j : ℕ) → 1 ≤ j → j ≤ m → coefficient h m l j ≡ coefficient h m k j) → constant h l ≡ constant h k → l ≡ k
unfolding constant
label_inj h zero l k p c e =
    same_by_parts (phases h) l k (sym (label_path_zero h l) ∙ p ∙ label_path_zero h k) e
label_inj h (suc m) l k p c e =
    same_by_parts (phases h) l k (label_inj h m (l / phases h) (k / phases h)
    (sym (label_path_suc h m l) ∙ p ∙ label_path_suc h m k)
    (λ j a b. sym (coefficient_suc h m l j b) ∙ c j a (omega arith) ∙ coefficient_suc h m k j b)
    (sym (coefficient_last h m l) ∙ c (suc m) (omega arith) (le_refl (suc m)) ∙ coefficient_last h m k)) e

-- the label number of path number n, coefficients c 1, .., c m and constant c0
unfoldable pub number_of : ℕ → ℕ → ℕ → (ℕ → ℕ) → ℕ → ℕ
number_of h zero n c c0 = n * phases h + c0
number_of h (suc m) n c c0 = number_of h m n c (c (suc m)) * phases h + c0

module _ (h : ℕ) (c : ℕ → ℕ) where
  pub number_of_constant : (m n c0 : ℕ) → c0 < phases h → constant h (number_of h m n c c0) ≡ c0
  unfolding number_of constant
  number_of_constant zero n c0 b = digits_mod n b
  number_of_constant (suc m) n c0 b = digits_mod (number_of h m n c (c (suc m))) b

  number_of_over : (m n c0 : ℕ) → c0 < phases h → number_of h (suc m) n c c0 / phases h ≡ number_of h m n c (c (suc m))
  unfolding number_of
  number_of_over m n c0 b = digits_div (number_of h m n c (c (suc m))) b

  -- the coefficients in use are below 2^h
  abbrev pub Coefficients : ℕ → Type 0
  Coefficients m = (j : ℕ) → 1 ≤ j → j ≤ m → c j < phases h

  fewer : (m : ℕ) → Coefficients (suc m) → Coefficients m
  fewer m s j a b = s j a (omega arith)

  last_lt : (m : ℕ) → Coefficients (suc m) → c (suc m) < phases h
  last_lt m s = s (suc m) (omega arith) (le_refl (suc m))

  pub number_of_path : (m n c0 : ℕ) → Coefficients m → c0 < phases h → label_path h m (number_of h m n c c0) ≡ n
  unfolding number_of
  number_of_path zero n c0 s b = label_path_zero h (n * phases h + c0) ∙ digits_div n b
  number_of_path (suc m) n c0 s b =
      label_path_suc h m (number_of h (suc m) n c c0)
      ∙ rw (number_of_over m n c0 b) (number_of_path m n (c (suc m)) (fewer m s) (last_lt m s))

  coefficient_top : (m n c0 : ℕ) → Coefficients (suc m) → c0 < phases h →
      coefficient h (suc m) (number_of h (suc m) n c c0) (suc m) ≡ c (suc m)
  coefficient_top m n c0 s b =
      coefficient_last h m (number_of h (suc m) n c c0)
      ∙ rw (number_of_over m n c0 b) (number_of_constant m n (c (suc m)) (last_lt m s))

  pub number_of_coefficient : (m n c0 j : ℕ) → Coefficients m → c0 < phases h → 1 ≤ j → j ≤ m →
      coefficient h m (number_of h m n c c0) j ≡ c j
  number_of_coefficient zero n c0 j s b p l = omega arith
  number_of_coefficient (suc m) n c0 j s b p l =
      at (ℕ_discrete j (suc m)) (λ (k : j ≤ m). number_of_coefficient m n (c (suc m)) j (fewer m s) (last_lt m s) p k)
    where
      at : Dec (j ≡ suc m) → (j ≤ m → coefficient h m (number_of h m n c (c (suc m))) j ≡ c j) →
          coefficient h (suc m) (number_of h (suc m) n c c0) j ≡ c j
      at (yes e) r = rw e (coefficient_top m n c0 s b)
      at (no e) r =
          coefficient_suc h m (number_of h (suc m) n c c0) j (omega arith)
          ∙ rw (number_of_over m n c0 b) (r (omega arith))

  below_pow : (w m n c0 : ℕ) → n < 2 ^ w → Coefficients m → c0 < phases h → number_of h m n c c0 < 2 ^ (w + h * (m + 1))
  unfolding number_of
  below_pow w zero n c0 a s b = rw (mul-one, pow-add) (digits_lt a b)
  below_pow w (suc m) n c0 a s b =
      let e : w + h * (suc m + 1) ≡ w + h * (m + 1) + h = omega (arith, suc-mul m h, mul_comm h m, mul-suc h m) in
      rw (e, pow-add 2 (w + h * (m + 1)) h) (digits_lt (below_pow w m n (c (suc m)) a (fewer m s) (last_lt m s)) b)

  pub number_of_lt : (m n c0 : ℕ) → n < paths_in_use m → Coefficients m → c0 < phases h →
      number_of h m n c c0 < labels h m
  number_of_lt m n c0 a s b = below_pow (path_bits m) m n c0 a s b

-- the number of a label's own parts is the label
pub number_of_back : (h m l : ℕ) → number_of h m (label_path h m l) (coefficient h m l) (constant h l) ≡ l
number_of_back h m l =
    let n : ℕ = label_path h m l in
    let c : ℕ → ℕ = coefficient h m l in
    let c0 : ℕ = constant h l in
    let s : Coefficients h c m = λ j a b. coefficient_lt h m l j in
    label_inj h m (number_of h m n c c0) l (number_of_path h c m n c0 s (constant_lt h l))
    (λ j a b. number_of_coefficient h c m n c0 j s (constant_lt h l) a b)
    (number_of_constant h c m n c0 (constant_lt h l))

-- 01: path number highest, then c_1 to c_m, then c lowest, each coefficient in h plain binary bits
pub message_bits_lem : (h m g : ℕ) → let l = label_of h m g in (label_path h m l ≡ g / 2 ^ (h * (m + 1)))
    × ((k : ℕ) → coefficient h m l k ≡ g / 2 ^ (h * (m + 1 - k)) % 2 ^ h) × (constant h l ≡ g % 2 ^ h)
unfolding label_of label_path coefficient constant
message_bits_lem h m g = (rw (phases_pow h (m + 1)) refl, (λ k. rw (phases_pow h (m + 1 - k)) refl), refl)
