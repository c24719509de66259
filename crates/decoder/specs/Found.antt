-- From a search to an answer: a table of small gains is accepted, its search gives the best total, and that is the
-- greatest correlation, or the least distance. These are laws of what is received (src/received.rt); they stand here
-- since an impl cites nothing of proofs/. In order: what an answer is; the gains of a table are small, and so are its
-- totals; it is accepted; what its search gives; every soft value is a sixteen-bit number; the answer of soft decoding;
-- the answer of hard decoding.
-- Not here: totals, correlations and distances (totals, Answers).  Assumes nothing.
use Prim.Native.Nat.{ℕ, ◌+◌, ◌-◌, ◌*◌, ◌/◌, ◌%◌, ◌≤◌, ◌<◌, zero-le}
use native.Mathlib.Nat.{mul-le-mul, mul_comm, le_refl, mod-lt, div-lt_iff_lt-mul, div-add-mod'}
use native.Mathlib.Decide.{dec_lt}
use native.Mathlib.Omega.{arith}
use mathlib.Core.Path.{◌≡◌, sym, ◌∙◌}
use mathlib.Core.Bool.{true}
use mathlib.Core.List.{List}
use lib.Dec.{lit<, lit≤}
use lib.IntN.{ℤ, pos, ◌-ℤ◌}
use lib.ListN.{length, get_or, get_or-eq_default}
use lib.Pow.{pow_pos, pow_mono}
use lib.Signed.{mag}
use borrow.Author.Tests.{le-leb}
use Rattle.range.specs.Signed.{entry}
use Rattle.range.proofs.Lists.{length_list_below, list_below_at}
use Rattle.range.proofs.Sums.{sum_below_le}
use Rattle.range.proofs.Tests.{all_below_of}
use Rattle.rules.specs.Shape.{greatest_m, in_shape, phases, half_turn, carriers}
use Rattle.rules.specs.Label.{labels, label_of, message_of}
use Rattle.rules.specs.Word.{symbol_at}
use Rattle.rules.specs.Best.{Best}
use Rattle.rules.specs.Decoding.{Answer, BestAnswer, Loud, Near}
use Rattle.rules.proofs.Range.{in_shape_range, carriers_most, phases_half}
use Rattle.rules.proofs.Silence.{labels_two}
use Rattle.rules.proofs.Messages.{label_of_message_of, message_of_lt}
use Rattle.totals.specs.Totals.{total_of}
use Rattle.totals.specs.Gains.{raise_by, soft_gain, hard_gain, table_of}
use Rattle.totals.proofs.SoftTotals.{soft_gain_le}
use Rattle.totals.proofs.HardTotals.{hard_gain_le}
use Rattle.totals.proofs.Answers.{loud_of_totals, near_of_totals}
use Rattle.standing.specs.declared.Standing.{Standing}
use Rattle.standing.specs.Lead.{lead, tied_of}
use Rattle.standing.proofs.Leading.{lead_best, lead_tied}
use Rattle.engine.specs.Search.{greatest_decoded, most_gain, accepts, searched}
use Rattle.engine.proofs.Accepting.{accepts_small, searched_is}
use Rattle.decoder.specs.Seen.{IsSeen, small_at}

-- what the search answers, with the best total as its value
abbrev answer_of : ℕ → ℕ → Standing → Answer ℕ
answer_of h m st = record { message = message_of h m st.label; value = st.best; tied = tied_of st }

-- st's answer is right of the totals of the gains f, and its total is no greater than b at every place
abbrev Leads : ℕ → ℕ → ℕ → (ℕ → ℕ → ℕ) → Standing → Type 0
Leads h m b f st =
    BestAnswer h m ◌≤◌ (total_of h m (table_of h m f)) (answer_of h m st) × (st.best ≤ carriers m * b)

module _ (h m b : ℕ) (f : ℕ → ℕ → ℕ) (low : (i s : ℕ) → f i s ≤ b) where
  table_le : (e : ℕ) → get_or (table_of h m f) e 0 ≤ b
  unfolding table_of
  table_le e = at (dec_lt e (phases h * carriers m))
    where
      at : Dec (e < phases h * carriers m) → get_or (table_of h m f) e 0 ≤ b
      at (yes l) = rw (list_below_at {A = ℕ} (phases h * carriers m) _ e 0 l) (low _ _)
      at (no n) =
          let q : length (table_of h m f) ≤ e = omega (arith, length_table_of) in
          rw (get_or-eq_default (table_of h m f) 0 q) zero-le
        where
          length_table_of : length (table_of h m f) ≡ phases h * carriers m
          length_table_of = length_list_below (phases h * carriers m) _

  total_le : (l : ℕ) → total_of h m (table_of h m f) l ≤ carriers m * b
  unfolding total_of
  total_le l = sum_below_le (carriers m) b _ (λ i _. table_le _)

  table_accepted : in_shape h m ≡ true → h ≤ 2 → b ≤ most_gain → accepts h m (table_of h m f) ≡ true
  unfolding table_of
  table_accepted e two top =
      sym (accepts_small h m (table_of h m f) e two (length_list_below (phases h * carriers m) _))
      ∙ all_below_of _ _ (λ i _. le-leb (get_or (table_of h m f) i 0) most_gain (omega (arith, table_le i)))

  search_leads : in_shape h m ≡ true → h ≤ 2 → b ≤ most_gain → (st : Standing) → st ≡ searched h m (table_of h m f) →
      Leads h m b f st
  search_leads e two top st q =
      let n : ℕ = labels h m in
      let total : ℕ → ℕ = total_of h m (table_of h m f) in
      let many : 2 ≤ n = labels_two h m (in_shape_range h m e).h_least in
      let is : st ≡ lead total n = q ∙ searched_is h m (table_of h m f) (table_accepted e two top) in
      let best : Best n ◌≤◌ total st.label st.best = rw is (lead_best total n (omega arith)) in
      let back : label_of h m (message_of h m st.label) ≡ st.label = label_of_message_of h m st.label in (
        record {
          inside = message_of_lt h m st.label best.inside;
          best = rw back best;
          tie = rw (back, is) (lead_tied total n many);
        },
        omega (arith, best.attained, total_le st.label),
      )

-- every soft value is a sixteen-bit number, once the gains of all symbols are known
module _ (h m : ℕ) (ok : in_shape h m ≡ true) where
  one : 1 ≤ h
  one = (in_shape_range h m ok).h_least

  module _ (ys : List ℤ) (long : length ys ≡ half_turn h * carriers m)
      (read : IsSeen (carriers m) (phases h) (small_at h ys)) where
    pub small : (k : ℕ) → mag (entry ys k) < raise_by
    small k = at (dec_lt k (length ys))
      where
        half : ℕ
        half = half_turn h

        at : Dec (k < length ys) → mag (entry ys k) < raise_by
        at (yes b) =
            let some : 0 < half = pow_pos (h - 1) in
            let place : k / half < carriers m =
            (div-lt_iff_lt-mul some).1 (omega (arith, b, long, mul_comm half (carriers m))) in
            let turn : k % half < half = mod-lt k some in
            let e : half * (k / half) + k % half ≡ k =
            omega (arith, mul_comm half (k / half), div-add-mod' k half) in
            rw e at (read (k / half) (k % half) place (omega (arith, turn, phases_half h one)) turn)
        at (no b) = rw (get_or-eq_default ys (pos 0) {n = k} (omega (arith, b))) (lit< tt)

-- what is answered is what the search gave
module _ (h m : ℕ) (ok : in_shape h m ≡ true) (two : h ≤ 2) (st : Standing) where
  module _ (ys : List ℤ) (small : (k : ℕ) → mag (entry ys k) < raise_by)
      (q : st ≡ searched h m (table_of h m (soft_gain h ys))) where
    heard : Leads h m (2 * raise_by) (soft_gain h ys) st
    heard = search_leads h m (2 * raise_by) (soft_gain h ys) (soft_gain_le h ys small) ok two (lit≤ tt) st q

    pub soft_best_le : st.best ≤ carriers greatest_m * (2 * raise_by)
    soft_best_le =
        omega (arith, heard.1, mul-le-mul (carriers_most h m (in_shape_range h m ok)) (le_refl (2 * raise_by)))

    pub soft_found : Loud h m ys (record {
      message = message_of h m st.label;
      value = pos st.best -ℤ pos (carriers m * raise_by);
      tied = tied_of st;
    })
    soft_found = loud_of_totals h m ys (answer_of h m st) (one h m ok) two small heard.0

  module _ (w : List ℕ) (inside : (i : ℕ) → i < carriers m → symbol_at w i < phases h)
      (q : st ≡ searched h m (table_of h m (hard_gain h w))) where
    matched : Leads h m (half_turn h) (hard_gain h w) st
    matched = search_leads h m (half_turn h) (hard_gain h w) (hard_gain_le h w) ok two top st q
      where
        top : half_turn h ≤ most_gain
        top = omega (arith, pow_mono {i = h - 1} {j = greatest_decoded - 1} (omega (arith, two)))

    pub hard_best_le : st.best ≤ carriers m * half_turn h
    hard_best_le = matched.1

    pub hard_found : Near h m w (record {
      message = message_of h m st.label;
      value = carriers m * half_turn h - st.best;
      tied = tied_of st;
    })
    hard_found = near_of_totals h m w (answer_of h m st) (one h m ok) inside matched.0
