-- The number that a call answers tells which of its cells are written, since a refusal's number says what it carries
-- (Carried).
-- In order: the number is 0 exactly where nothing is refused; for any number but 3 and 7 the cells for what a refusal
-- carries stay; for 3 and 7 they are written, whatever they held.
-- The first three laws take an outcome o that is listed; Carried lists the outcome of every call. The first takes, too,
-- what the field `number` of each promise says of the result r.  Assumes nothing.
use Prim.Native.Nat.{ℕ, ◌<◌, zero-le}
use native.Mathlib.Omega.{arith}
use mathlib.Core.Path.{◌≡◌, refl, sym, ◌∙◌, ap}
use mathlib.Core.Logic.{◌↔◌}
use mathlib.Core.Bool.{Bool, true, false, cond, false≢true}
use lib.ListN.{length, get_or-eq_default}
use Rattle.rules.specs.Outcome.{Outcome, gives}
use Rattle.rules.proofs.OutcomeLaws.{gives_not_refuses}
use Rattle.sharqudel.specs.Crossing.{kind_of, carried_or}
use Rattle.sharqudel.proofs.CrossingLaws.{get_or_inside}
use Rattle.sharqudel.proofs.Carried.{placed, Listed, given, refused}

module _ {A : Type 0} {n : ℕ} where
  pub kind_of_zero_iff : {o : Outcome A} {r : ℕ} → Listed n o → r ≡ kind_of o → (r ≡ 0) ↔ ((a : A) × (o ≡ gives a))
  kind_of_zero_iff (given {a}) e = (λ z. (a, refl), λ p. e)
  kind_of_zero_iff (refused s) e =
      (λ z. absurd (omega (arith, s.nonzero)), λ p. absurd (gives_not_refuses (sym p.1)))

  pub carried_or_kept : {o : Outcome A} → Listed n o → placed (kind_of o) ≡ false → (i old : ℕ) →
      carried_or o i old ≡ old
  carried_or_kept given e i old = refl
  carried_or_kept (refused {v = v} r) e i old =
      let none : length v ≡ 0 = r.count ∙ ap (λ (t : Bool). cond t n 0) e in
      get_or-eq_default v old (rw none zero-le)

  pub carried_or_written : {o : Outcome A} → Listed n o → placed (kind_of o) ≡ true → (i : ℕ) → i < n → (old new : ℕ) →
      carried_or o i old ≡ carried_or o i new
  carried_or_written given e i h old new = absurd (false≢true e)
  carried_or_written (refused {v = v} r) e i h old new =
      let all : length v ≡ n = r.count ∙ ap (λ (t : Bool). cond t n 0) e in
      let inside : i < length v = omega arith in
      get_or_inside v i inside old new
