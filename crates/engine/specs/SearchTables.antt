-- The tables of the search as code holds them (totals, specs/Climb.antt has what stands in them).
-- Defines:  area                  how many numbers an area for tables has
--           most_total            no number of any table is above it
--           Runs q half w xs      xs may be read by a stage: 2 q half runs of w numbers, each so small that the stages
--                                 that follow stay within most_total
--           WordFits q w g        gains g, in q runs as long as the word w, may be taken with w put in
--           Climbing d q half w l xs ys  d stages and the last may follow from a table at the front of the area xs,
--                                 and go to and fro between xs and ys; the labels are counted from l
--           table_in q half w xs  the table at the front of the area xs
-- Laws: proofs/RunLaws.antt, Climbing.antt, PathLaws.antt.  Assumes nothing: these are definitions.
use Rattle.std.specs.Prelude.{ℕ, suc, ◌+◌, ◌*◌, ◌^◌, ◌≤◌, ◌<◌, ◌≡◌, List, length, get_or, take}
use Rattle.rules.specs.Shape.{greatest_m, phases}
use Rattle.engine.specs.Search.{greatest_decoded, most_labels}

-- 2 q^m for the most symbols that are decoded and the greatest m
abbrev pub area : ℕ
area = 2 * phases greatest_decoded ^ greatest_m

abbrev pub most_total : ℕ
most_total = 2 ^ 31

pub record Runs (q half w : ℕ) (xs : List ℕ) : Type 0 where
  pub symbols : 1 ≤ q
  pub halves : 1 ≤ half
  pub run : 1 ≤ w
  pub long : length xs ≡ 2 * (q * half) * w
  pub small : (i : ℕ) → get_or xs i 0 * (2 * half) ≤ most_total

pub record WordFits (q : ℕ) (w g : List ℕ) : Type 0 where
  pub long : length g ≡ q * length w
  pub symbols : (i : ℕ) → i < length w → get_or w i 0 < q

abbrev pub table_in : ℕ → ℕ → ℕ → List ℕ → List ℕ
table_in q half w xs = take (2 * (q * half) * w) xs

pub record Climbing (d q half w l : ℕ) (xs ys : List ℕ) : Type 0 where
  pub halved : half ≡ 2 ^ d
  pub symbols : 2 ≤ q
  pub runs : Runs q half w (table_in q half w xs)
  pub first : 2 * q * w * q ^ d ≤ length xs
  pub second : 2 * q * w * q ^ d ≤ length ys
  pub counted : l + w * q ^ suc d * q ≤ most_labels
