-- How large a correlation is: at most N times the largest soft value, for every shape. In order: what one symbol hears;
-- the correlation.  Assumes nothing.
use Prim.Native.Nat.{ℕ, zero, suc, ◌+◌, ◌*◌, ◌≤◌}
use mathlib.Core.Bool.{Bool, true, false, cond}
use mathlib.Core.List.{List}
use lib.Dec.{eqb}
use lib.IntN.{ℤ, nat_abs}
use Rattle.range.specs.Signed.{entry}
use Rattle.range.proofs.Sizes.{nat_abs_neg, nat_abs_negated_if, nat_abs_sumℤ}
use Rattle.rules.specs.Shape.{carriers}
use Rattle.rules.specs.Word.{word_at}
use Rattle.rules.specs.Soft.{heard_two, heard_four, heard, correlation}

heard_four_size : (re im : ℤ) (s b : ℕ) → nat_abs re ≤ b → nat_abs im ≤ b → nat_abs (heard_four re im s) ≤ b
heard_four_size re im zero b p q = p
heard_four_size re im (suc zero) b p q = q
heard_four_size re im (suc (suc zero)) b p q = rw (nat_abs_neg re) p
heard_four_size re im (suc (suc (suc s))) b p q = rw (nat_abs_neg im) q

heard_size : (h : ℕ) (ys : List ℤ) (i s b : ℕ) → ((k : ℕ) → nat_abs (entry ys k) ≤ b) → nat_abs (heard h ys i s) ≤ b
unfolding heard
heard_size h ys i s b small = by (eqb h 1)
  where
    by : (t : Bool) →
        nat_abs (cond t (heard_two (entry ys i) s) (heard_four (entry ys (2 * i)) (entry ys (2 * i + 1)) s)) ≤ b
    by true = rw (nat_abs_negated_if (eqb s 1) (entry ys i)) (small i)
    by false = heard_four_size (entry ys (2 * i)) (entry ys (2 * i + 1)) s b (small (2 * i)) (small (2 * i + 1))

pub correlation_size : (h m : ℕ) (ys : List ℤ) (l b : ℕ) → ((i : ℕ) → nat_abs (entry ys i) ≤ b) →
    nat_abs (correlation h m ys l) ≤ carriers m * b
unfolding correlation
correlation_size h m ys l b small =
    nat_abs_sumℤ (carriers m) b _ (λ i _. heard_size h ys i (word_at h m l i) b small)
