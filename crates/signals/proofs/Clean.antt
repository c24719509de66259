-- What a symbol hears of soft values with no noise: rules' Soft. In order: how many values there are; the value at each
-- index; what symbol s hears at a place is the amplitude where s was sent, its negation where the symbol half a turn on
-- was sent, and else 0.
-- Not here: sums over places (Units).  Assumes nothing.
use Prim.Native.Nat.{ℕ, zero, suc, ◌+◌, ◌-◌, ◌*◌, ◌%◌, ◌≤◌, ◌<◌}
use native.Mathlib.Nat.{mod-lt, mod-eq_of_lt, mod-eq-sub-mod}
use native.Mathlib.Omega.{arith}
use mathlib.Core.Path.{◌≡◌, refl, sym, ◌∙◌, ap}
use mathlib.Core.Bool.{Bool, true, false, cond}
use mathlib.Core.List.{List}
use lib.Arith.{digits_lt, digits_div, digits_mod}
use lib.Dec.{eqb, leb}
use lib.IntN.{ℤ, pos, neg_ℤ, neg_ℤ-neg_ℤ}
use lib.Pow.{pow_pos}
use borrow.Author.Tests.{leb-true, leb-false, eqb-true}
use Rattle.range.specs.Signed.{negated_if, entry}
use Rattle.range.proofs.Lists.{list_below_at}
use Rattle.rules.specs.Shape.{phases, half_turn, carriers}
use Rattle.rules.specs.Word.{symbol_at}
use Rattle.rules.specs.Soft.{soft_length, heard, clean_at, clean}
use Rattle.rules.proofs.Range.{phases_half}
use Rattle.signals.proofs.Hearing.{heard_half}

pub soft_length_half : (h m : ℕ) → 1 ≤ h → h ≤ 2 → soft_length h m ≡ carriers m * half_turn h
soft_length_half zero m a b = absurd (omega (arith, a))
soft_length_half (suc zero) m a b = omega arith
soft_length_half (suc (suc zero)) m a b = omega arith
soft_length_half (suc (suc (suc h))) m a b = absurd (omega (arith, b))

-- a where the symbol x is r, -a where it is t
shown : ℕ → ℕ → ℕ → ℕ → ℤ
shown a x r t = cond (eqb x r) (pos a) (cond (eqb x t) (neg_ℤ (pos a)) (pos 0))

clean_at_lem : (h m a : ℕ) (w : List ℕ) (i r : ℕ) → 1 ≤ h → h ≤ 2 → i < carriers m → r < half_turn h →
    entry (clean h m a w) (half_turn h * i + r) ≡ shown a (symbol_at w i) r (r + half_turn h)
unfolding clean clean_at shown
clean_at_lem h m a w i r one two p q =
    let e : half_turn h * i + r ≡ i * half_turn h + r = omega arith in
    let l : i * half_turn h + r < soft_length h m = rw (soft_length_half h m one two) (digits_lt p q) in
    rw e (list_below_at (soft_length h m) (clean_at h a w) (i * half_turn h + r) (pos 0) l
    ∙ rw (digits_div i q, digits_mod i q))

-- negated, the two symbols change places
shown_turned : (a x r t : ℕ) → (r ≡ t → ⊥) → neg_ℤ (shown a x r t) ≡ shown a x t r
unfolding shown
shown_turned a x r t n = by (eqb x r) (eqb x t) refl refl
  where
    by : (u v : Bool) → eqb x r ≡ u → eqb x t ≡ v →
        neg_ℤ (cond u (pos a) (cond v (neg_ℤ (pos a)) (pos 0))) ≡ cond v (pos a) (cond u (neg_ℤ (pos a)) (pos 0))
    by true true p q = absurd (n (sym (eqb-true x r p) ∙ eqb-true x t q))
    by true false p q = refl
    by false true p q = neg_ℤ-neg_ℤ (pos a)
    by false false p q = refl

shown_half : (a x c s : ℕ) → 0 < c → s < 2 * c →
    negated_if (leb c s) (shown a x (s % c) (s % c + c)) ≡ shown a x s ((s + c) % (2 * c))
shown_half a x c s z l = by (leb c s) refl
  where
    by : (t : Bool) → leb c s ≡ t → negated_if t (shown a x (s % c) (s % c + c)) ≡ shown a x s ((s + c) % (2 * c))
    by true e =
        let b : c ≤ s = leb-true c s e in
        let r : s % c ≡ s - c = mod-eq-sub-mod b ∙ mod-eq_of_lt (omega arith) in
        let k : s + c - 2 * c ≡ s - c = omega arith in
        let t : (s + c) % (2 * c) ≡ s - c =
        mod-eq-sub-mod {n = s + c} {m = 2 * c} (omega arith) ∙ rw k (mod-eq_of_lt (omega arith)) in
        let u : s - c + c ≡ s = omega arith in
        rw (r, t, u) (shown_turned a x (s - c) s (λ q. omega (arith, q)))
    by false e =
        let b : s < c = leb-false c s e in
        rw (mod-eq_of_lt b, mod-eq_of_lt {n = s + c} {m = 2 * c} (omega arith))

pub heard_clean : (h m a : ℕ) (w : List ℕ) (i s : ℕ) → 1 ≤ h → h ≤ 2 → i < carriers m → s < phases h →
    heard h (clean h m a w) i s ≡ cond (eqb (symbol_at w i) s) (pos a)
    (cond (eqb (symbol_at w i) ((s + half_turn h) % phases h)) (neg_ℤ (pos a)) (pos 0))
unfolding shown
heard_clean h m a w i s one two p q =
    heard_half h (clean h m a w) i s one two q
    ∙ ap (negated_if (leb (half_turn h) s))
    (clean_at_lem h m a w i (s % half_turn h) one two p (mod-lt s (pow_pos (h - 1))))
    ∙ shown_half a (symbol_at w i) (half_turn h) s (pow_pos (h - 1)) (rw (phases_half h one) at q)
    ∙ ap (λ (n : ℕ). shown a (symbol_at w i) s ((s + half_turn h) % n)) (sym (phases_half h one))
