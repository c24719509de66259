-- The word of a label whose number is put together from a path number n, the number r of the coefficients and the
-- constant s. In order: the linear part of a form by the digits of r; the parts of the label; its form; its word, from
-- the word of the path's first label.
-- Not here: linear forms by themselves (Linear).  Assumes nothing.
use Prim.Native.Nat.{ℕ, suc, ◌+◌, ◌-◌, ◌*◌, ◌/◌, ◌%◌, ◌^◌, ◌<◌}
use native.Mathlib.Nat.{pow-succ', div-div-eq-div-mul, mod-add-mod, add-mod-mod, pow-suc, one-le-pow}
use native.Mathlib.Numerals.{add-one}
use native.Mathlib.Omega.{arith}
use mathlib.Core.Path.{◌≡◌, sym, ◌∙◌, ap}
use lib.Arith.{digits_div, digits_mod}
use lib.Pow.{pow_pos}
use Rattle.range.proofs.Sums.{sum_below_cong}
use Rattle.rules.specs.Shape.{phases, half_turn}
use Rattle.rules.specs.Place.{digit}
use Rattle.rules.specs.Path.{path_at}
use Rattle.rules.specs.Label.{label_path, coefficient, constant}
use Rattle.rules.specs.Word.{links, form_at, word_at}
use Rattle.words.proofs.Readings.{linear}
use Rattle.totals.proofs.Linear.{linear_at, linear_at_below, linear_at_zero}

linear_digits : (h m l z : ℕ) → linear h m l z ≡ linear_at (phases h) m (l / phases h) z
unfolding linear_at coefficient digit
linear_digits h m l z = sum_below_cong m _ _ (λ k b.
    let e : m + 1 - suc k ≡ suc (m - suc k) = omega arith in
    rw (e, pow-succ', ← (div-div-eq-div-mul l (phases h) (phases h ^ (m - suc k)))))

-- the label of path n, coefficients r and constant s
abbrev pub label_by : ℕ → ℕ → ℕ → ℕ → ℕ → ℕ
label_by h m n r s = (n * phases h ^ m + r) * phases h + s

module _ (h m n r s : ℕ) (lr : r < phases h ^ m) (ls : s < phases h) where
  label_by_over : label_by h m n r s / phases h ≡ n * phases h ^ m + r
  label_by_over = digits_div (n * phases h ^ m + r) ls

  label_by_path : label_path h m (label_by h m n r s) ≡ n
  unfolding label_path
  label_by_path =
      rw (add-one, pow-succ', ← (div-div-eq-div-mul (label_by h m n r s) (phases h) (phases h ^ m)), label_by_over)
      (digits_div n lr)

  label_by_constant : constant h (label_by h m n r s) ≡ s
  unfolding constant
  label_by_constant = digits_mod (n * phases h ^ m + r) ls

  label_by_linear : (z : ℕ) → linear h m (label_by h m n r s) z ≡ linear_at (phases h) m r z
  label_by_linear z =
      let e : 0 * 2 ^ m + z ≡ z = omega arith in
      linear_digits h m (label_by h m n r s) z
      ∙ rw label_by_over (rw e at (linear_at_below (phases h) m n r 0 z (pow_pos h)))

  label_by_form : (z : ℕ) → form_at h m (label_by h m n r s) z ≡
      half_turn h * links (digit m z) (path_at m n) + linear_at (phases h) m r z + s
  unfolding form_at
  label_by_form z = rw (label_by_path, label_by_linear z, label_by_constant)

-- the first label of path n has no coefficients and no constant
first_label : (h m n : ℕ) → n * phases h ^ (m + 1) ≡ label_by h m n 0 0
first_label h m n = rw (add-one, pow-suc) (omega arith)

first_form : (h m n z : ℕ) → form_at h m (n * phases h ^ (m + 1)) z ≡ half_turn h * links (digit m z) (path_at m n)
first_form h m n z =
    rw (first_label h m n, label_by_form h m n 0 0 (one-le-pow m (phases h) (pow_pos h)) (pow_pos h) z, linear_at_zero)
    (omega arith)

pub word_at_label_by : (h m n r s z : ℕ) → r < phases h ^ m → s < phases h → word_at h m (label_by h m n r s) z ≡
    ((s + linear_at (phases h) m r z) % phases h + word_at h m (n * phases h ^ (m + 1)) z) % phases h
unfolding word_at
word_at_label_by h m n r s z lr ls =
    let f : ℕ = half_turn h * links (digit m z) (path_at m n) in
    let x : ℕ = linear_at (phases h) m r z in
    let e : f + x + s ≡ s + x + f = omega arith in
    rw (label_by_form h m n r s lr ls z, first_form h m n z, mod-add-mod (s + x) (phases h) (f % phases h))
    (ap (λ (y : ℕ). y % phases h) e ∙ sym (add-mod-mod (s + x) f (phases h)))
