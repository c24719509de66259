-- The correlation of soft values with no noise, by distance: N amplitudes, less an amplitude for each quarter turn that
-- the word lies away from the symbols sent. With amplitude 1 these are 01's unit soft values.
-- In order: how many quarter turns two symbols lie apart; an amplitude less them; what a symbol hears; the correlation;
-- unit soft values for two phases and for four.
-- Not here: the soft values (Clean).  Assumes nothing.
use Prim.Native.Nat.{ℕ, zero, suc, ◌+◌, ◌*◌, ◌/◌, ◌%◌, ◌≤◌, ◌<◌}
use native.Mathlib.Nat.{mul-zero, mul-one, one-mul, mul_assoc}
use native.Mathlib.Omega.{arith}
use mathlib.Core.Path.{◌≡◌, refl, sym, ◌∙◌, ap}
use mathlib.Core.Bool.{Bool, true, false, cond}
use mathlib.Core.List.{List}
use lib.Dec.{eqb, lit≤}
use lib.IntN.{pos, neg_ℤ, ◌+ℤ◌, ◌-ℤ◌, +ℤ_idl, +ℤ_idr, +ℤ_assoc, +ℤ_invr, neg_ℤ-+ℤ}
use borrow.Author.Tests.{eqb-true}
use Rattle.range.specs.Below.{all_below}
use Rattle.range.proofs.Tests.{all_below_at}
use Rattle.range.proofs.Sums.{sum_below_mul}
use Rattle.range.proofs.Shifts.{sumℤ_less}
use Rattle.rules.specs.Shape.{phases, half_turn, carriers}
use Rattle.rules.specs.Word.{word_at, symbol_at}
use Rattle.rules.specs.Pair.{minus}
use Rattle.rules.specs.Distance.{lee_of, lee, distance}
use Rattle.rules.specs.Soft.{heard, correlation, clean}
use Rattle.rules.proofs.SymbolLaws.{word_at_lt}
use Rattle.signals.proofs.Distances.{distance_lee}
use Rattle.signals.proofs.Clean.{heard_clean}

-- how many quarter turns symbols x and s lie apart: a half turn is two
quarters : ℕ → ℕ → ℕ → ℕ
quarters h x s = 2 / half_turn h * lee_of h (minus (phases h) x s)

-- none where they are equal, two where one is half a turn on, else one
count_of : ℕ → ℕ → ℕ → ℕ
count_of h x s = cond (eqb x s) 0 (cond (eqb x ((s + half_turn h) % phases h)) 2 1)

quarters_test : (h : ℕ) → 1 ≤ h → h ≤ 2 →
    all_below (phases h) (λ x. all_below (phases h) (λ s. eqb (quarters h x s) (count_of h x s))) ≡ true
unfolding quarters count_of lee_of minus all_below
quarters_test zero a b = absurd (omega (arith, a))
quarters_test (suc zero) a b = refl
quarters_test (suc (suc zero)) a b = refl
quarters_test (suc (suc (suc h))) a b = absurd (omega (arith, b))

quarters_count : (h x s : ℕ) → 1 ≤ h → h ≤ 2 → x < phases h → s < phases h → quarters h x s ≡ count_of h x s
quarters_count h x s one two p q =
    eqb-true (quarters h x s) (count_of h x s) (all_below_at (phases h) (λ t. eqb (quarters h x t) (count_of h x t))
    (all_below_at (phases h) (λ y. all_below (phases h) (λ t. eqb (quarters h y t) (count_of h y t)))
    (quarters_test h one two) x p) s q)

less_none : (a : ℕ) → pos a -ℤ pos (a * 0) ≡ pos a
less_none a = rw (mul-zero a) (+ℤ_idr (pos a))

less_one : (a : ℕ) → pos a -ℤ pos (a * 1) ≡ pos 0
less_one a = rw (mul-one a) (+ℤ_invr (pos a))

less_two : (a : ℕ) → pos a -ℤ pos (a * 2) ≡ neg_ℤ (pos a)
less_two a =
    let e : a * 2 ≡ a + a = omega arith in
    rw (e, neg_ℤ-+ℤ (pos a) (pos a)) (sym (+ℤ_assoc (pos a) (neg_ℤ (pos a)) (neg_ℤ (pos a)))
    ∙ ap (λ z. z +ℤ neg_ℤ (pos a)) (+ℤ_invr (pos a)) ∙ +ℤ_idl (neg_ℤ (pos a)))

less_count : (t u : Bool) (a : ℕ) →
    cond t (pos a) (cond u (neg_ℤ (pos a)) (pos 0)) ≡ pos a -ℤ pos (a * cond t 0 (cond u 2 1))
less_count true u a = sym (less_none a)
less_count false true a = sym (less_two a)
less_count false false a = sym (less_one a)

heard_lee : (h m a : ℕ) (w : List ℕ) (i s : ℕ) → 1 ≤ h → h ≤ 2 → i < carriers m → symbol_at w i < phases h →
    s < phases h → heard h (clean h m a w) i s ≡
    pos a -ℤ pos (a * (2 / half_turn h) * lee_of h (minus (phases h) (symbol_at w i) s))
unfolding quarters count_of
heard_lee h m a w i s one two p q r =
    let x : ℕ = symbol_at w i in
    heard_clean h m a w i s one two p r
    ∙ less_count (eqb x s) (eqb x ((s + half_turn h) % phases h)) a
    ∙ ap (λ (n : ℕ). pos a -ℤ pos (a * n)) (sym (quarters_count h x s one two q r))
    ∙ ap (λ (n : ℕ). pos a -ℤ pos n) (sym (mul_assoc a (2 / half_turn h) (lee_of h (minus (phases h) x s))))

pub correlation_clean : (h m a : ℕ) (w : List ℕ) (l : ℕ) → 1 ≤ h → h ≤ 2 →
    ((i : ℕ) → i < carriers m → symbol_at w i < phases h) → correlation h m (clean h m a w) l ≡
    pos (carriers m * a) -ℤ pos (a * (2 / half_turn h) * distance h (carriers m) (symbol_at w) (word_at h m l))
unfolding correlation lee
correlation_clean h m a w l one two inside =
    let c : ℕ = a * (2 / half_turn h) in
    let d : ℕ → ℕ = λ i. lee_of h (minus (phases h) (symbol_at w i) (word_at h m l i)) in
    sumℤ_less (carriers m) a (λ i. heard h (clean h m a w) i (word_at h m l i)) (λ i. c * d i)
    (λ i b. heard_lee h m a w i (word_at h m l i) one two b (inside i b) (word_at_lt h m l i))
    ∙ ap (λ (n : ℕ). pos (carriers m * a) -ℤ pos n) (sum_below_mul (carriers m) c d
    ∙ ap (λ (n : ℕ). c * n) (sym (distance_lee h (carriers m) (symbol_at w) (word_at h m l) inside
    (λ i _. word_at_lt h m l i))))

pub unit_two : (m : ℕ) (w : List ℕ) (l : ℕ) → ((i : ℕ) → i < carriers m → symbol_at w i < 2) →
    correlation 1 m (clean 1 m 1 w) l ≡
    pos (carriers m) -ℤ pos (2 * distance 1 (carriers m) (symbol_at w) (word_at 1 m l))
unit_two m w l inside =
    rw (mul-one (carriers m)) at (correlation_clean 1 m 1 w l (lit≤ tt) (lit≤ tt) inside)

pub unit_four : (m : ℕ) (w : List ℕ) (l : ℕ) → ((i : ℕ) → i < carriers m → symbol_at w i < 4) →
    correlation 2 m (clean 2 m 1 w) l ≡
    pos (carriers m) -ℤ pos (distance 2 (carriers m) (symbol_at w) (word_at 2 m l))
unit_four m w l inside =
    let d : ℕ = distance 2 (carriers m) (symbol_at w) (word_at 2 m l) in
    rw (mul-one (carriers m), one-mul d) at (correlation_clean 2 m 1 w l (lit≤ tt) (lit≤ tt) inside)
