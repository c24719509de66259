-- Laws of how an outcome leaves a call: this crate's Crossing.
-- In order: what equal outcomes leave is equal: the number, a cell for what is given, and one for what is carried; the
-- number of the area that holds the spectrum; an entry inside a list.
-- Not here: what the number alone tells (Numbers).  Assumes nothing.
use Prim.Native.Nat.{ℕ, ◌+◌, ◌%◌, ◌<◌, ◌≤◌}
use native.Mathlib.Omega.{arith}
use mathlib.Core.Path.{◌≡◌, sym, ◌∙◌, ap}
use mathlib.Core.List.{List}
use lib.ListN.{length, get_or, get_or-eq_default}
use lib.Seq.{drop-cons}
use borrow.Author.Tests.{eq-eqb, ne_eqb}
use Rattle.range.proofs.Bits.{bit_cases}
use Rattle.rules.specs.Outcome.{Outcome}
use Rattle.sharqudel.specs.Crossing.{kind_of, given_or, carried_or, area_of}

module _ {A : Type 0} {o u : Outcome A} (e : o ≡ u) where
  pub kind_of_cong : kind_of o ≡ kind_of u
  kind_of_cong = ap kind_of e

  pub given_or_cong : {B : Type 0} (f : A → B) (old : B) → given_or o f old ≡ given_or u f old
  given_or_cong f old = ap (λ (x : Outcome A). given_or x f old) e

  pub carried_or_cong : (i old : ℕ) → carried_or o i old ≡ carried_or u i old
  carried_or_cong i old = ap (λ (x : Outcome A). carried_or x i old) e

pub area_of_is : (m : ℕ) → 1 + m % 2 ≡ area_of m
area_of_is m =
    bit_cases (m % 2) (omega arith) (λ e. rw (eq-eqb (m % 2) 0 e) (omega arith))
    (λ e. rw (ne_eqb (m % 2) 0 (λ z. omega arith)) (omega arith))

-- inside a list it does not matter what would stand behind it
pub get_or_inside : (v : List ℕ) (i : ℕ) → i < length v → (d e : ℕ) → get_or v i d ≡ get_or v i e
get_or_inside v i h d e = cc (drop-cons v i d h, drop-cons v i e h)

-- of numbers that code counts: one that is there, and one that is not
module _ (v : List ℕ) {n : ℕ} (counted : n ≡ length v) (i old : ℕ) where
  pub carried_inside : {x : ℕ} → i < n → x ≡ get_or v i 0 → x ≡ get_or v i old
  carried_inside l e = e ∙ get_or_inside v i (omega arith) 0 old

  pub carried_behind : n ≤ i → old ≡ get_or v i old
  carried_behind l = sym (get_or-eq_default v old (omega arith))
