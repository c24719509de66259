-- The totals of all labels of one path, stage by stage. A table is a list of runs of w numbers. With q symbols, stage
-- k takes in the digit x_k, the last one first: each run t of the next table, for a coefficient c_k, is the run at
-- x_k = 0 and the run at x_k = 1 whose symbol is c_k further on, added number by number.
-- Runs are numbered through symbol and place together: c symbols further on is c times `half` runs further on, modulo
-- all of them.
-- Defines:  gains_with q n w g       the gains with a word w put in: what symbol s plus w's symbol gains at each place
--           pair_at q half w xs t c r    number r of run t of the next table at coefficient c: two numbers of xs added
--           climbed q half w xs   one stage, from 2 q half runs of w to q half runs of q w
--           climbs q d w xs       d stages, from runs of w to runs of w q^d
--           gains_with_at, climbed_at  their numbers by index
--           by_label q w xs j     of q runs of w, one for each constant, the number for label j: the constant stands
--                                 lowest in a label
-- Laws: proofs/Totals.antt (after m stages this is the total of that label).  Assumes nothing: these are definitions.
use Rattle.std.specs.Prelude.{ℕ, zero, suc, ◌+◌, ◌*◌, ◌/◌, ◌%◌, ◌^◌, List, get_or}
use Rattle.range.specs.Below.{list_below}

unfoldable pub gains_with_at : ℕ → ℕ → List ℕ → List ℕ → ℕ → ℕ
gains_with_at q n w g e = get_or g ((e / n + get_or w (e % n) 0) % q * n + e % n) 0

unfoldable pub gains_with : ℕ → ℕ → List ℕ → List ℕ → List ℕ
gains_with q n w g = list_below (q * n) (gains_with_at q n w g)

-- run t of the next table at coefficient c, number r
unfoldable pub pair_at : ℕ → ℕ → ℕ → List ℕ → ℕ → ℕ → ℕ → ℕ
pair_at q half w xs t c r =
    get_or xs (2 * t * w + r) 0 + get_or xs ((2 * ((t + c * half) % (q * half)) + 1) * w + r) 0

unfoldable pub climbed_at : ℕ → ℕ → ℕ → List ℕ → ℕ → ℕ
climbed_at q half w xs e = pair_at q half w xs (e / w / q) (e / w % q) (e % w)

unfoldable pub climbed : ℕ → ℕ → ℕ → List ℕ → List ℕ
climbed q half w xs = list_below (q * half * q * w) (climbed_at q half w xs)

unfoldable pub climbs : ℕ → ℕ → ℕ → List ℕ → List ℕ
climbs q zero w xs = xs
climbs q (suc d) w xs = climbs q d (w * q) (climbed q (2 ^ d) w xs)

unfoldable pub by_label : ℕ → ℕ → List ℕ → ℕ → ℕ
by_label q w xs j = get_or xs (j % q * w + j / q) 0
