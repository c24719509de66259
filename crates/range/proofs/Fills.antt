-- A loop that writes a list place after place, seen from its own start: `Fills` (specs/Below.antt), and with the
-- loop's ends `Filling`. In order: before the first turn; a turn; both
-- of a loop that counts from its start; one loop after another; the end of the last; the same
-- of a loop from p to e, whose end is e.  Not here: lists filled from the front (Filled).  Assumes nothing.
use Prim.Native.Nat.{ℕ, ◌+◌, ◌≤◌, ◌<◌}
use native.Mathlib.Nat.{add-zero, le_refl}
use native.Mathlib.Omega.{arith}
use mathlib.Core.Path.{◌≡◌, refl, ◌∙◌, ap, subst}
use mathlib.Core.List.{List}
use lib.ListN.{length, set, length-set}
use Rattle.range.specs.Below.{list_below, filled, Fills}
use Rattle.range.proofs.Filled.{filled_zero, filled_turn, filled_end}

module _ {A : Type 0} where
  pub fills_none : (f : ℕ → A) (to : List A) (i : ℕ) → Fills f to i to i
  fills_none f to i = record { sized = refl; on = λ d l e. e }

  fills_turn : (f : ℕ → A) (to₀ : List A) (i₀ : ℕ) (to : List A) (i : ℕ) (v : A) → Fills f to₀ i₀ to i →
      i < length to₀ → v ≡ f i → Fills f to₀ i₀ (set to i v) (i + 1)
  fills_turn f to₀ i₀ to i v w h e = record {
    sized = length-set to i v ∙ w.sized;
    on = λ d l q. filled_turn i f d to v (subst (λ (n : ℕ). i < n) l h) (w.on d l q) e;
  }

  -- the same of a loop that counts from the place o at which it begins
  pub fills_zero : (f : ℕ → A) (d : List A) (o : ℕ) → Fills f d o d (o + 0)
  fills_zero f d o = rw (add-zero o) (fills_none f d o)

  pub fills_next : (f : ℕ → A) (d d' : List A) (o r : ℕ) (v : A) → Fills f d o d' (o + r) → o + r < length d →
      v ≡ f (o + r) → Fills f d o (set d' (o + r) v) (o + (r + 1))
  fills_next f d d' o r v w h e =
      let i : o + r + 1 ≡ o + (r + 1) = omega arith in
      subst (Fills f d o (set d' (o + r) v)) i (fills_turn f d o d' (o + r) v w h e)

  pub fills_trans : {f : ℕ → A} {xs ys zs : List A} {i j k : ℕ} → Fills f xs i ys j → Fills f ys j zs k →
      Fills f xs i zs k
  fills_trans v w = record { sized = w.sized ∙ v.sized; on = λ d l e. w.on d (v.sized ∙ l) (v.on d l e) }

  pub fills_end : (f : ℕ → A) (to₀ to : List A) (i n : ℕ) → Fills f to₀ 0 to i → i ≡ n → to ≡ filled n f to₀
  fills_end f to₀ to i n w e = w.on to₀ refl (filled_zero f to₀) ∙ ap (λ (k : ℕ). filled k f to₀) e

  -- where all of the list is written
  pub fills_all : (f : ℕ → A) (d d' : List A) (n j : ℕ) → Fills f d 0 d' j → length d ≡ n → j ≡ n →
      d' ≡ list_below n f
  fills_all f d d' n j w l e = filled_end n j f d d' l e (w.on d refl (filled_zero f d))

  -- a loop from p to e stands at i
  pub record Filling (f : ℕ → A) (d : List A) (p e : ℕ) (d' : List A) (i : ℕ) : Type 0 where
    pub from : p ≤ i
    pub to : i ≤ e
    pub fills : Fills f d p d' i

  pub filling_none : (f : ℕ → A) (d : List A) (p e : ℕ) → p ≤ e → Filling f d p e d p
  filling_none f d p e h = record { from = le_refl p; to = h; fills = fills_none f d p }

  module _ {f : ℕ → A} {d : List A} {p e : ℕ} {d' : List A} {i : ℕ} (w : Filling f d p e d' i) where
    pub filling_turn : {v : A} → i < e → i < length d' → v ≡ f i → Filling f d p e (set d' i v) (i + 1)
    filling_turn {v} l h q = record {
      from = omega (arith, w.from);
      to = omega (arith, l);
      fills = fills_turn f d p d' i v w.fills (omega (arith, h, w.fills.sized)) q;
    }

    pub filling_end : e ≤ i → Fills f d p d' e
    filling_end l =
        let q : i ≡ e = omega (arith, w.to) in
        subst (Fills f d p d') q w.fills
