-- The labels of a table counted: a row has one for each constant, the block of a coefficient a row for each choice of
-- the others. In order: the values of a block; one row more; a block in which nothing passes the second best; a block
-- in the whole table; one block more.
-- Not here: where the runs of a table lie (RunLaws).  Assumes nothing.
use Prim.Native.Nat.{ℕ, ◌+◌, ◌*◌, ◌/◌, ◌%◌, ◌≤◌, ◌<◌}
use native.Mathlib.Nat.{div-add-mod', div-lt_iff_lt-mul, mod-lt}
use native.Mathlib.Omega.{arith}
use mathlib.Core.Path.{◌≡◌, refl, sym, ◌∙◌, ap, subst}
use mathlib.Core.List.{List}
use lib.Arith.{digits_div, digits_mod}
use Rattle.totals.specs.Climb.{pair_at, climbed, by_label}
use Rattle.totals.proofs.Runs.{by_label_last}
use Rattle.standing.specs.declared.Standing.{Standing}
use Rattle.standing.specs.Lead.{lead_from}
use Rattle.standing.proofs.Lead.{lead_from_kept, lead_from_stretch}

module _ (q half w : ℕ) (xs : List ℕ) (c : ℕ) where
  -- the values of a coefficient's labels, in their order
  abbrev pub block_at : ℕ → ℕ
  block_at j = pair_at q half w xs (j % q) c (j / q)

  pub rows_next : (first i : ℕ) (st₀ st r : Standing) → st ≡ lead_from first block_at (i * q) st₀ →
      r ≡ lead_from (first + i * q) (λ s. pair_at q half w xs s c i) q st →
      r ≡ lead_from first block_at ((i + 1) * q) st₀
  rows_next first i st₀ st r e f =
      let n : i * q + q ≡ (i + 1) * q = omega arith in
      subst (λ (k : ℕ). r ≡ lead_from first block_at k st₀) n (lead_from_stretch first block_at (i * q) q
      (first + i * q) (λ s. pair_at q half w xs s c i) st₀ st r e refl (λ s l. rw (digits_div i l, digits_mod i l)) f)

  -- where no value passes the second best
  pub block_kept : (first : ℕ) (st : Standing) → 0 < q →
      ((s i : ℕ) → s < q → i < w → pair_at q half w xs s c i ≤ st.second) → st ≡ lead_from first block_at (w * q) st
  block_kept first st some low =
      sym (lead_from_kept first block_at (w * q) st (λ j l. low (j % q) (j / q) (mod-lt j some)
      ((div-lt_iff_lt-mul some).1 l)))

-- the last stage, where a symbol is one run
module _ (q half w : ℕ) (xs : List ℕ) (one : half ≡ 1) where
  -- the label of the block is the label of the whole table
  by_label_block : (c j : ℕ) → c < q → j < w * q →
      block_at q half w xs c j ≡ by_label q (w * q) (climbed q 1 w xs) (c * (w * q) + j)
  by_label_block c j lc l =
      let some : 0 < q = omega arith in
      let r : ℕ = j / q in
      let s : ℕ = j % q in
      let e : (c * w + r) * q + s ≡ c * (w * q) + j = omega (arith, div-add-mod' j q) in
      rw one
      (sym (by_label_last q w xs c r s lc ((div-lt_iff_lt-mul some).1 l) (mod-lt j some))
      ∙ ap (by_label q (w * q) (climbed q 1 w xs)) e)

  pub blocks_next : (first c : ℕ) (st₀ st r : Standing) → c < q →
      st ≡ lead_from first (by_label q (w * q) (climbed q 1 w xs)) (c * (w * q)) st₀ →
      r ≡ lead_from (first + c * (w * q)) (block_at q half w xs c) (w * q) st →
      r ≡ lead_from first (by_label q (w * q) (climbed q 1 w xs)) ((c + 1) * (w * q)) st₀
  blocks_next first c st₀ st r lc e f =
      let n : c * (w * q) + w * q ≡ (c + 1) * (w * q) = omega arith in
      let g : ℕ → ℕ = by_label q (w * q) (climbed q 1 w xs) in
      subst (λ (k : ℕ). r ≡ lead_from first g k st₀) n
      (lead_from_stretch first g (c * (w * q)) (w * q) _ (block_at q half w xs c) st₀ st r e refl
      (λ j l. by_label_block c j lc l) f)
