-- The standing of a search through values, in the order of their labels.
-- Defines:  better st v l         the standing after value v of label l: equals go to the earlier label
--           nobody                the standing before the first value
--           lead_from l f n st    after the n values f 0, .., f (n - 1) of the labels from l on
--           lead f n              after the values of the labels below n
--           tied_of st            whether the second best is as good as the best
-- Laws: proofs/Leading.antt (the standing after all labels is rules' Best and Tied).
-- Assumes nothing: these are definitions.
use Rattle.std.specs.Prelude.{ℕ, zero, suc, ◌+◌, Bool, cond, leb, eqb}
use Rattle.standing.specs.declared.Standing.{Standing}

abbrev pub better : Standing → ℕ → ℕ → Standing
better st v l =
    cond (leb v st.second) st
    (cond (leb v st.best) (record { best = st.best; second = v; label = st.label })
    (record { best = v; second = st.best; label = l }))

abbrev pub nobody : Standing
nobody = record { best = 0; second = 0; label = 0 }

unfoldable pub lead_from : ℕ → (ℕ → ℕ) → ℕ → Standing → Standing
lead_from l f zero st = st
lead_from l f (suc n) st = better (lead_from l f n st) (f n) (l + n)

unfoldable pub lead : (ℕ → ℕ) → ℕ → Standing
lead f n = lead_from 0 f n nobody

abbrev pub tied_of : Standing → Bool
tied_of st = eqb st.best st.second
