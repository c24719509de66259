-- The gains of soft values, and their totals: a gain lies 32,768 above what is heard, so a total lies N times that
-- above the correlation. The soft values are sixteen-bit numbers: `mag z < raise_by` says -32,768 ≤ z < 32,768.
-- In order: a value raised, and its negation raised; a gain by half turns; its bound; a gain by what is heard; a
-- total.
-- Not here: symbols (HardTotals), which label has the greatest (Answers).  Assumes nothing.
use Prim.Native.Nat.{ℕ, zero, suc, ◌+◌, ◌-◌, ◌*◌, ◌%◌, ◌≤◌, ◌<◌}
use native.Mathlib.Nat.{mod-eq_of_lt, mod-eq-sub-mod}
use native.Mathlib.Omega.{arith}
use mathlib.Core.Path.{◌≡◌, refl, sym, ◌∙◌, ap}
use mathlib.Core.Bool.{Bool, true, false, not, cond}
use mathlib.Core.List.{List}
use lib.Dec.{leb, ltb}
use lib.IntN.{ℤ, pos, negsuc, neg_ℤ, sub_ℕ, ◌+ℤ◌}
use lib.Signed.{mag}
use borrow.Author.Tests.{leb-true, leb-false, le-ltb}
use Rattle.range.specs.Signed.{negated_if, entry}
use Rattle.range.proofs.Tests.{ltb_not_leb}
use Rattle.range.proofs.Shifts.{sumℤ_pos, sumℤ_shift}
use Rattle.rules.specs.Shape.{phases, half_turn, carriers}
use Rattle.rules.specs.Word.{word_at}
use Rattle.rules.specs.Soft.{heard, correlation}
use Rattle.rules.proofs.Range.{phases_half}
use Rattle.rules.proofs.SymbolLaws.{word_at_lt}
use Rattle.signals.proofs.Hearing.{heard_half}
use Rattle.totals.specs.Totals.{total_of}
use Rattle.totals.specs.Gains.{raise_by, raised, soft_gain, table_of}
use Rattle.totals.proofs.GainTables.{total_of_table}

subℕ_loudest : (b : ℕ) → b ≤ raise_by → sub_ℕ raise_by b ≡ pos (raise_by - b)
subℕ_loudest b l = rw (le-ltb raise_by b l)

pub raised_shift : (z : ℤ) → mag z < raise_by → pos (raised z) ≡ pos raise_by +ℤ z
raised_shift (pos a) l = refl
raised_shift (negsuc a) l = sym (subℕ_loudest (suc a) l)

pub lowered_shift : (z : ℤ) → mag z < raise_by → pos (2 * raise_by - raised z) ≡ pos raise_by +ℤ neg_ℤ z
lowered_shift (pos zero) l = refl
lowered_shift (pos (suc a)) l = ap pos (omega arith) ∙ sym (subℕ_loudest (suc a) (omega arith))
lowered_shift (negsuc a) l = ap pos (omega arith)

pub raised_le : (z : ℤ) → mag z < raise_by → raised z ≤ 2 * raise_by
raised_le (pos a) l = omega arith
raised_le (negsuc a) l = omega arith

cond_le : (t : Bool) (a b w : ℕ) → a ≤ w → b ≤ w → cond t a b ≤ w
cond_le true a b w p q = p
cond_le false a b w p q = q

-- a gain, as the table holds it and as it is heard
gain_shift : (t : Bool) (z : ℤ) → mag z < raise_by →
    pos (cond t (2 * raise_by - raised z) (raised z)) ≡ pos raise_by +ℤ negated_if t z
gain_shift true z l = lowered_shift z l
gain_shift false z l = raised_shift z l

-- what is chosen by being below c or not, of what is less than twice c, is chosen by what is left modulo c
cond_half : (c s : ℕ) (f g : ℕ → ℕ) → s < 2 * c →
    cond (ltb s c) (f s) (g (s - c)) ≡ cond (leb c s) (g (s % c)) (f (s % c))
cond_half c s f g l = rw (ltb_not_leb s c) (by (leb c s) refl)
  where
    by : (t : Bool) → leb c s ≡ t → cond (not t) (f s) (g (s - c)) ≡ cond t (g (s % c)) (f (s % c))
    by true e =
        let b : c ≤ s = leb-true c s e in
        ap g (sym (mod-eq-sub-mod b ∙ mod-eq_of_lt (omega arith)))
    by false e = ap f (sym (mod-eq_of_lt (leb-false c s e)))

soft_gain_half : (h : ℕ) (ys : List ℤ) (i s : ℕ) → 1 ≤ h → s < phases h → soft_gain h ys i s ≡
    cond (leb (half_turn h) s) (2 * raise_by - raised (entry ys (half_turn h * i + s % half_turn h)))
    (raised (entry ys (half_turn h * i + s % half_turn h)))
unfolding soft_gain
soft_gain_half h ys i s one l =
    cond_half (half_turn h) s (λ r. raised (entry ys (half_turn h * i + r)))
    (λ r. 2 * raise_by - raised (entry ys (half_turn h * i + r))) (rw (phases_half h one) at l)

module _ (h : ℕ) (ys : List ℤ) (small : (k : ℕ) → mag (entry ys k) < raise_by) where
  pub soft_gain_le : (i s : ℕ) → soft_gain h ys i s ≤ 2 * raise_by
  unfolding soft_gain
  soft_gain_le i s =
      let y : ℤ = entry ys (half_turn h * i + s) in
      cond_le (ltb s (half_turn h)) (raised y) _ (2 * raise_by) (raised_le y (small (half_turn h * i + s)))
      (omega arith)

  pub soft_gain_lem : (i s : ℕ) → 1 ≤ h → h ≤ 2 → s < phases h →
      pos (soft_gain h ys i s) ≡ pos raise_by +ℤ heard h ys i s
  soft_gain_lem i s one two l =
      rw (soft_gain_half h ys i s one l, heard_half h ys i s one two l)
      (gain_shift (leb (half_turn h) s) _ (small (half_turn h * i + s % half_turn h)))

  pub soft_total : (m l : ℕ) → 1 ≤ h → h ≤ 2 →
      pos (total_of h m (table_of h m (soft_gain h ys)) l) ≡ pos (carriers m * raise_by) +ℤ correlation h m ys l
  unfolding correlation
  soft_total m l one two =
      ap pos (total_of_table h m (soft_gain h ys) l)
      ∙ sym (sumℤ_pos (carriers m) (λ i. soft_gain h ys i (word_at h m l i)))
      ∙ sumℤ_shift (carriers m) raise_by _ _ (λ i b. soft_gain_lem i (word_at h m l i) one two (word_at_lt h m l i))
