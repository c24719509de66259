-- The totals of all labels of a path, by stages. In order: a place so many symbols further on; what a place adds to the
-- total of a label; the table after all stages, and what stands there for a label.
-- Not here: what the stages make of any table (Stages).  Assumes nothing.
use Prim.Native.Nat.{ℕ, ◌+◌, ◌*◌, ◌/◌, ◌%◌, ◌^◌, ◌<◌}
use native.Mathlib.Nat.{zero-add, mul-one, pow-zero, pow-suc, div-add-mod', div-lt_iff_lt-mul, mod-lt}
use native.Mathlib.Numerals.{add-one}
use native.Mathlib.Omega.{arith}
use mathlib.Core.Path.{◌≡◌, ◌∙◌, ap}
use mathlib.Core.List.{List}
use lib.Arith.{digits_div, digits_mod, mod-mul}
use lib.Pow.{pow_pos}
use Rattle.range.specs.Below.{list_below}
use Rattle.range.proofs.Lists.{list_below_at}
use Rattle.range.proofs.Sums.{sum_below_cong}
use Rattle.rules.specs.Shape.{phases, carriers}
use Rattle.rules.specs.Word.{word_at}
use Rattle.totals.specs.Totals.{gain_at, total_of}
use Rattle.totals.specs.Climb.{gains_with_at, gains_with, climbs, by_label}
use Rattle.totals.proofs.Runs.{gains_with_at_run, gains_with_at_lem}
use Rattle.totals.proofs.Linear.{linear_at}
use Rattle.totals.proofs.Words.{label_by, word_at_label_by}
use Rattle.totals.proofs.Stages.{sum_at, Reached, reached_zero, climbs_reached}

-- place i of symbol s + x, symbols counted modulo q
symbol_further : (q n s x i : ℕ) → 0 < q → i < n → (s * n + i + x * n) % (q * n) ≡ (s + x) % q * n + i
symbol_further q n s x i p l =
    let e : s * n + i + x * n ≡ (s + x) * n + i = omega arith in
    rw e (mod-mul ((s + x) * n + i) {m = q} {c = n} p (omega arith) ∙ rw (digits_div (s + x) l, digits_mod (s + x) l))

module _ (h m : ℕ) (g : List ℕ) (n : ℕ) where
  -- the word of the path's first label, the gains with it put in, and the table after all stages
  abbrev first : List ℕ
  first = list_below (carriers m) (word_at h m (n * phases h ^ (m + 1)))

  abbrev gains : ℕ → ℕ
  gains = gains_with_at (phases h) (carriers m) first g

  abbrev table : List ℕ
  table = climbs (phases h) m 1 (gains_with (phases h) (carriers m) first g)

  table_reached : Reached (phases h) (carriers m) gains m 1 table
  table_reached =
      let begin : List ℕ = gains_with (phases h) (carriers m) first g in
      rw (pow-zero (phases h)) at (climbs_reached (phases h) m gains 0 m begin (pow_pos h) (zero-add m)
      (reached_zero (phases h) (carriers m) gains begin (gains_with_at_lem (phases h) (carriers m) first g)))

  module _ (r s : ℕ) (lr : r < phases h ^ m) (ls : s < phases h) where
    gains_at : (z : ℕ) → z < carriers m →
        gains ((s * carriers m + z + linear_at (phases h) m r z * carriers m) % (phases h * carriers m))
        ≡ gain_at (carriers m) g z (word_at h m (label_by h m n r s) z)
    gains_at z lz =
        let x : ℕ = linear_at (phases h) m r z in
        rw (symbol_further (phases h) (carriers m) s x z (pow_pos h) lz, word_at_label_by h m n r s z lr ls)
        (gains_with_at_run (phases h) (carriers m) first g ((s + x) % phases h) z lz
        ∙ rw (list_below_at (carriers m) (word_at h m (n * phases h ^ (m + 1))) z 0 lz))

    by_label_parts : by_label (phases h) (phases h ^ m) table (r * phases h + s) ≡ total_of h m g (label_by h m n r s)
    unfolding by_label total_of sum_at
    by_label_parts =
        rw (digits_div r ls, digits_mod r ls)
        (table_reached s r (rw mul-one ls) lr ∙ sum_below_cong (carriers m) _ _ gains_at)

-- label j of path n: m stages over the gains with the path's own word put in give its total
pub by_label_total : (h m : ℕ) (g : List ℕ) (n j : ℕ) → j < phases h ^ (m + 1) →
    by_label (phases h) (phases h ^ m) (climbs (phases h) m 1 (gains_with (phases h) (carriers m)
    (list_below (carriers m) (word_at h m (n * phases h ^ (m + 1)))) g)) j ≡ total_of h m g (n * phases h ^ (m + 1) + j)
by_label_total h m g n j l =
    let q : ℕ = phases h in
    let e : j / q * q + j % q ≡ j = div-add-mod' j q in
    let up : q ^ (m + 1) ≡ q ^ m * q = rw add-one (pow-suc q m) in
    let lr : j / q < q ^ m = (div-lt_iff_lt-mul (pow_pos h)).1 (rw up at l) in
    let whole : label_by h m n (j / q) (j % q) ≡ n * q ^ (m + 1) + j = rw up (omega arith) in
    (rw e at (by_label_parts h m g n (j / q) (j % q) lr (mod-lt j (pow_pos h))))
    ∙ ap (total_of h m g) whole
