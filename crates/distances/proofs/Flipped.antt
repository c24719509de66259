-- The forms of one label at places that differ in one digit or in two: rules' Word. In order: the forms of the four
-- places of two flips balance, up to half a turn where the two digits are linked; a flip from 0 to 1 adds the
-- coefficient of its digit to the linear part, and so to the form.
-- Not here: four places in general (words' FourForms), two labels (PartsApart).  Assumes nothing.
use Prim.Native.Nat.{ℕ, zero, suc, ◌+◌, ◌*◌, ◌%◌, ◌≤◌}
use native.Mathlib.Omega.{arith}
use mathlib.Core.Path.{◌≡◌, sym}
use mathlib.Core.Logic.{◌≢◌}
use Rattle.range.proofs.Sums.{sum_below_but_one}
use Rattle.rules.specs.Shape.{phases, half_turn}
use Rattle.rules.specs.Place.{digit}
use Rattle.rules.specs.Path.{path_at}
use Rattle.rules.specs.Label.{label_path, coefficient}
use Rattle.rules.specs.Word.{links, form_at}
use Rattle.places.proofs.Flips.{flip, digit_flip_at, digit_flip_off}
use Rattle.paths.proofs.LinkedPairs.{on_pair}
use Rattle.words.proofs.Readings.{Good, linked, linear}
use Rattle.words.proofs.Around.{around_flip}
use Rattle.words.proofs.FourForms.{form_at_flip_balance}

pub form_at_flips : (h m l a b i : ℕ) → 1 ≤ h → a ≤ m → b ≤ m → a ≢ b → Good m (path_at m (label_path h m l)) →
    (form_at h m l i + form_at h m l (flip m a (flip m b i))
    + half_turn h * links (on_pair a b) (path_at m (label_path h m l))) % phases h
    ≡ (form_at h m l (flip m a i) + form_at h m l (flip m b i)) % phases h
form_at_flips h m l a b i one la lb n good =
    form_at_flip_balance h m l a i (flip m b i) _ one la good (sym (digit_flip_off m b a i lb la n))
    (around_flip m a b i (path_at m (label_path h m l)) lb n good)

-- from a place without digit r to the place with it
linear_flip : (h m l r i : ℕ) → 1 ≤ r → r ≤ m → digit m i r ≡ 0 →
    linear h m l i + coefficient h m l r ≡ linear h m l (flip m r i)
linear_flip h m l zero i a b e = absurd (omega arith)
linear_flip h m l (suc r) i a b e =
    let one : digit m (flip m (suc r) i) (suc r) ≡ 1 = omega (arith, digit_flip_at m (suc r) i) in
    let f = sum_below_but_one m r (λ k. coefficient h m l (suc k) * digit m i (suc k))
    (λ k. coefficient h m l (suc k) * digit m (flip m (suc r) i) (suc k)) b
    (λ k u n. rw (digit_flip_off m (suc r) (suc k) i b u (omega arith))) in
    omega (arith, rw (e, one) at f)

pub form_at_flip : (h m l r i : ℕ) → 1 ≤ r → r ≤ m → digit m i r ≡ 0 →
    form_at h m l i + half_turn h * linked h m l (flip m r i) + coefficient h m l r
    ≡ form_at h m l (flip m r i) + half_turn h * linked h m l i
unfolding form_at
form_at_flip h m l r i a b e = omega (arith, linear_flip h m l r i a b e)
