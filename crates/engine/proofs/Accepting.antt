-- Which tables of gains are searched: specs/Search.antt, accepts. In order: the last of its tests, where the
-- others are passed; what holds where all are passed, and that no gain is too great there; how long a table is, as code
-- counts it; what a search answers.
-- Not here: the search through the labels (PathLaws).  Assumes nothing.
use Prim.Native.Nat.{ℕ, ◌+◌, ◌*◌, ◌^◌, ◌≤◌, ◌<◌}
use native.Mathlib.Nat.{mul-le-mul}
use native.Mathlib.Decide.{dec_lt}
use native.Mathlib.Omega.{arith}
use mathlib.Core.Path.{◌≡◌, refl, sym, ap}
use mathlib.Core.Bool.{Bool, true, false, ◌&&◌}
use mathlib.Core.List.{List, [], ◌∷◌}
use lib.Dec.{eqb, leb}
use lib.ListN.{length, get_or, get_or-eq_default}
use lib.Pow.{pow-add}
use borrow.Author.Tests.{leb-true, eqb-true, le-leb, eq-eqb}
use Rattle.std.specs.List.{list_all}
use Rattle.range.specs.Below.{all_below}
use Rattle.range.proofs.Tests.{and_left, and_right, all_below_at}
use Rattle.rules.specs.Shape.{in_shape, phases, carriers, greatest_m}
use Rattle.rules.specs.Label.{labels}
use Rattle.rules.proofs.Range.{in_shape_range, carriers_most}
use Rattle.totals.specs.Totals.{total_of}
use Rattle.standing.specs.Lead.{nobody, lead}
use Rattle.engine.specs.SearchTables.{most_total}
use Rattle.engine.specs.Search.{greatest_decoded, most_gain, accepts, searched}

-- the gains are small
abbrev small_gains : List ℕ → Bool
small_gains g = all_below (length g) (λ i. leb (get_or g i 0) most_gain)

module _ (h m : ℕ) (g : List ℕ) where
  pub accepts_small : in_shape h m ≡ true → h ≤ greatest_decoded → length g ≡ phases h * carriers m →
      small_gains g ≡ accepts h m g
  unfolding accepts
  accepts_small e b l = rw (e, le-leb h greatest_decoded b, eq-eqb (length g) (phases h * carriers m) l)

  pub record Accepted : Type 0 where
    pub shape : in_shape h m ≡ true
    pub few : h ≤ greatest_decoded
    pub long : length g ≡ phases h * carriers m
    pub small : small_gains g ≡ true

  pub accepts_given : accepts h m g ≡ true → Accepted
  unfolding accepts
  accepts_given e =
      let a = and_right (in_shape h m) _ e in
      let b = and_right (leb h greatest_decoded) _ a in
      record {
        shape = and_left (in_shape h m) _ e;
        few = leb-true h greatest_decoded (and_left (leb h greatest_decoded) _ a);
        long = eqb-true (length g) (phases h * carriers m) (and_left (eqb (length g) (phases h * carriers m)) _ b);
        small = and_right (eqb (length g) (phases h * carriers m)) _ b;
      }

  -- no gain is too great for the stages
  pub accepted_small : Accepted → (i : ℕ) → get_or g i 0 * carriers m ≤ most_total
  accepted_small p i = at (dec_lt i (length g))
    where
      n : carriers m ≤ carriers greatest_m
      n = carriers_most h m (in_shape_range h m p.shape)

      at : Dec (i < length g) → get_or g i 0 * carriers m ≤ most_total
      at (yes l) =
          let a : get_or g i 0 ≤ most_gain = leb-true _ most_gain (all_below_at (length g) _ p.small i l) in
          omega (
            arith,
            mul-le-mul {n₁ = get_or g i 0} {m₁ = carriers m} {n₂ = most_gain} {m₂ = carriers greatest_m} a
                n,
          )
      at (no l) =
          let b : length g ≤ i = omega arith in
          rw (get_or-eq_default g 0 b) (omega arith)

-- the same as a test of the list
pub small_list : (g : List ℕ) → list_all (λ gain. leb gain most_gain) g ≡ small_gains g
unfolding all_below
small_list [] = refl
small_list (gain ∷ g) = ap (λ (t : Bool). leb gain most_gain && t) (small_list g)

-- 2^h N as one power
pub table_size : (h m : ℕ) → phases h * carriers m ≡ 2 ^ (h + m)
table_size h m = sym (pow-add 2 h m)

-- what a search answers
module _ (h m : ℕ) (g : List ℕ) where
  pub searched_not : accepts h m g ≡ false → nobody ≡ searched h m g
  unfolding searched
  searched_not e = rw e

  pub searched_is : accepts h m g ≡ true → searched h m g ≡ lead (total_of h m g) (labels h m)
  unfolding searched
  searched_is e = rw e
