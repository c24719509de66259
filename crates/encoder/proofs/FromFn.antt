-- An array made by a closure of the place: where each call gives what f says and leaves the closure as it was, the
-- array is f's list.
-- In order: the elements made from place i on; the whole.  Assumes nothing.
use Prim.Native.Nat.{ℕ, zero, suc, ◌+◌, ◌<◌}
use native.Mathlib.Nat.{zero-add, not-suc-le-zero, le_of_suc-le-suc}
use native.Mathlib.Omega.{arith}
use denote.Param.Members.{Mut, Called}
use mathlib.Core.Path.{◌≡◌, sym, ◌∙◌, ap, subst}
use mathlib.Core.List.{List}
use lib.ListN.{get_or}
use lib.Seq.{ext_get_or}
use Rattle.std.specs.Array.{IsFromFnResultFrom, IsFromFnResult}
use Rattle.range.specs.Below.{list_below}
use Rattle.range.proofs.Lists.{length_list_below, list_below_at}

module _ {F B : Type 0} (g : Mut F (ℕ × Unit {0}) B) (f : ℕ → B) (t : F)
    (says : (i : ℕ) (y : B) (u : F) → Called g t (i, tt) y u → (y ≡ f i) × (u ≡ t)) where
  made_at : (ys : List B) (d : B) (n i k : ℕ) → IsFromFnResultFrom g t ys i n → k < n → get_or ys (i + k) d ≡ f (i + k)
  made_at ys d zero i k h l = absurd (not-suc-le-zero l)
  made_at ys d (suc n) i zero h l =
      let e : i + 0 ≡ i = omega arith in
      rw e (h.2.1 d ∙ (says i h.1 h.0 h.3).0)
  made_at ys d (suc n) i (suc k) h l =
      let e : i + suc k ≡ i + 1 + k = omega arith in
      let rest = subst (λ u. IsFromFnResultFrom g u ys (i + 1) n) (says i h.1 h.0 h.3).1 h.4 in
      rw e (made_at ys d n (i + 1) k rest (le_of_suc-le-suc l))

  pub made_is : (d : B) (ys : List B) (n : ℕ) → IsFromFnResult g t ys n → ys ≡ list_below n f
  made_is d ys n h =
      ext_get_or d ys (list_below n f) (h.long ∙ sym (length_list_below n f))
      (λ k b. ap (λ j. get_or ys j d) (sym (zero-add k)) ∙ made_at ys d n 0 k h.each (rw h.long at b)
      ∙ ap f (zero-add k) ∙ sym (list_below_at n f k d (rw h.long at b)))
