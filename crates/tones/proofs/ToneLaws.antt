-- Laws of the soft values. In order: one number of the generator more; one value more.
-- Assumes nothing.
use Prim.Native.Nat.{ℕ, ◌+◌}
use native.Mathlib.Numerals.{add-one}
use mathlib.Core.Path.{◌≡◌, sym, ◌∙◌, ap}
use mathlib.Core.Bool.{Bool}
use mathlib.Core.List.{List}
use lib.IntN.{ℤ}
use Rattle.tones.specs.Tones.{next, seed_at, tone, moved, lowered, heard_at}

pub seed_at_next : (s e r t : ℕ) → r ≡ seed_at s e → t ≡ next r → t ≡ seed_at s (e + 1)
unfolding seed_at
seed_at_next s e r t p q = q ∙ ap next p ∙ ap (seed_at s) (sym (add-one e))

pub heard_at_is : (a n s : ℕ) (four : Bool) (w : List ℕ) (e x t v : ℕ) (y : ℤ) → t ≡ seed_at s (e + 1) →
    x ≡ tone a four w e → v ≡ moved x n t → y ≡ lowered v → y ≡ heard_at a n s four w e
unfolding heard_at
heard_at_is a n s four w e x t v y p q r z = z ∙ ap lowered (r ∙ rw (q, p, add-one e))
