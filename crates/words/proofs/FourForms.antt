-- The forms at four places: rules' Word. In order: the linear parts of four places whose digits balance; two forms
-- together; the forms of such places balance, up to half a turn where their links have an odd sum; so do those of two
-- places that agree in a digit and of both with it turned over, by what stands around that digit.
-- Not here: links with a digit turned over (Around), multiples of half a turn (rules' Turns).  Assumes nothing.
use Prim.Native.Nat.{ℕ, suc, ◌+◌, ◌*◌, ◌%◌, ◌≤◌, ◌<◌, zero-le, suc-le-suc}
use native.Mathlib.Omega.{arith}
use mathlib.Core.Path.{◌≡◌, sym, ◌∙◌, ap}
use Rattle.range.proofs.Remainders.{mod_sum}
use Rattle.range.proofs.Sums.{sum_below_sum, sum_below_cong}
use Rattle.rules.specs.Shape.{phases, half_turn}
use Rattle.rules.specs.Place.{digit}
use Rattle.rules.specs.Path.{path_at}
use Rattle.rules.specs.Label.{label_path, coefficient, constant}
use Rattle.rules.specs.Word.{form_at}
use Rattle.rules.proofs.Turns.{half_of_parity}
use Rattle.places.proofs.Flips.{flip, digit_flip_balance}
use Rattle.words.proofs.Readings.{Good, linked, linear}
use Rattle.words.proofs.Around.{around, links_flip}

-- the linear parts of four places whose digits balance
linear_four : (h m l i j k t : ℕ) →
    ((r : ℕ) → 1 ≤ r → r ≤ m → digit m i r + digit m t r ≡ digit m j r + digit m k r) →
    linear h m l i + linear h m l t ≡ linear h m l j + linear h m l k
linear_four h m l i j k t e = sum_below_sum m _ _ ∙ sum_below_cong m _ _ each ∙ sym (sum_below_sum m _ _)
  where
    c : ℕ → ℕ
    c r = coefficient h m l (suc r)

    each : (r : ℕ) → r < m →
        c r * digit m i (suc r) + c r * digit m t (suc r) ≡ c r * digit m j (suc r) + c r * digit m k (suc r)
    each r b = omega (arith, ap (λ (d : ℕ). c r * d) (e (suc r) (suc-le-suc zero-le) b))

form_at_pair : (h m l i j : ℕ) → form_at h m l i + form_at h m l j ≡
    half_turn h * (linked h m l i + linked h m l j) + (linear h m l i + linear h m l j + 2 * constant h l)
unfolding form_at
form_at_pair h m l i j = omega arith

-- the forms of such places, where ε has the parity of their links
form_at_four : (h m l i j k t ε : ℕ) → 1 ≤ h →
    ((r : ℕ) → 1 ≤ r → r ≤ m → digit m i r + digit m t r ≡ digit m j r + digit m k r) →
    (linked h m l i + linked h m l j + (linked h m l k + linked h m l t)) % 2 ≡ ε % 2 →
    (form_at h m l i + form_at h m l t + half_turn h * ε) % phases h ≡ (form_at h m l j + form_at h m l k) % phases h
form_at_four h m l i j k t ε one e odd =
    let s : ℕ = linear h m l j + linear h m l k + 2 * constant h l in
    let u : ℕ = linked h m l i + linked h m l t + ε in
    let v : ℕ = linked h m l j + linked h m l k in
    let f : form_at h m l i + form_at h m l t + half_turn h * ε ≡ half_turn h * u + s =
    omega (arith, form_at_pair h m l i t, linear_four h m l i j k t e) in
    rw (f, form_at_pair h m l j k) (half_of_parity h u v s one (omega arith))

-- places i and j agree in digit a, and ε has the parity of what stands around it at both
pub form_at_flip_balance : (h m l a i j ε : ℕ) → 1 ≤ h → a ≤ m → Good m (path_at m (label_path h m l)) →
    digit m i a ≡ digit m j a →
    (around a (digit m i) (path_at m (label_path h m l)) + around a (digit m j) (path_at m (label_path h m l))) % 2
    ≡ ε % 2 →
    (form_at h m l i + form_at h m l (flip m a j) + half_turn h * ε) % phases h
    ≡ (form_at h m l (flip m a i) + form_at h m l j) % phases h
form_at_flip_balance h m l a i j ε one la good s e =
    form_at_four h m l i (flip m a i) j (flip m a j) ε one (λ r _ lr. digit_flip_balance m a i j r la lr s)
    (mod_sum 2 _ _ _ _ (links_flip m a i _ la good) (links_flip m a j _ la good) ∙ e)
