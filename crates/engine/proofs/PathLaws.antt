-- The labels of the paths of a table of gains that can be searched (src/gains.rt, Gains). In order: all labels are
-- those of the paths in use; the areas have room for the tables of each shape; powers to m, as the stages count them;
-- the first label of a path is one, and so are the others; the path's own word can be put into the gains; the first
-- table, of which the stages may begin; what they answer, in terms of totals.
-- Not here: the stages (Climbing).  Assumes nothing.
use Prim.Native.Nat.{ℕ, suc, ◌+◌, ◌-◌, ◌*◌, ◌/◌, ◌^◌, ◌≤◌, ◌<◌}
use native.Mathlib.Nat.{one-mul, mul-le-mul, le_refl, pow-suc, pow-succ', pow-le-pow_left, pow-le-pow_right, one-le-pow}
use native.Mathlib.Decide.{dec_lt}
use native.Mathlib.Numerals.{add-one}
use native.Mathlib.Omega.{arith}
use mathlib.Core.Path.{◌≡◌, sym, ◌∙◌, ap}
use mathlib.Core.List.{List}
use lib.Dec.{lit<, lit≤}
use lib.ListN.{length, get_or, take, get_or-eq_default}
use lib.Pow.{pow_mono, pow-add}
use Rattle.range.specs.Below.{list_below}
use Rattle.range.proofs.Products.{times_within}
use Rattle.range.proofs.Lists.{length_list_below, list_below_at}
use Rattle.rules.specs.Shape.{greatest_m, phases, carriers, path_bits, paths_in_use}
use Rattle.rules.specs.Label.{labels}
use Rattle.rules.specs.Word.{word_at}
use Rattle.rules.proofs.Range.{InRange, in_shape_range, phases_least, phases_pow, messages_most}
use Rattle.rules.proofs.SymbolLaws.{word_at_lt}
use Rattle.totals.specs.Totals.{total_of}
use Rattle.totals.specs.Climb.{gains_with_at, gains_with, climbs, by_label}
use Rattle.totals.proofs.Runs.{length_gains_with, gains_with_at_lem}
use Rattle.totals.proofs.Totals.{by_label_total}
use Rattle.standing.specs.declared.Standing.{Standing}
use Rattle.standing.specs.Lead.{lead_from}
use Rattle.standing.proofs.Lead.{lead_from_cong}
use Rattle.engine.specs.declared.gains.Gains.{Gains}
use Rattle.engine.specs.Search.{greatest_decoded, most_labels}
use Rattle.engine.specs.SearchTables.{area, most_total, Runs, WordFits, table_in, Climbing}
use Rattle.engine.proofs.Climbing.{wanted}

-- all labels are those of the paths in use
pub labels_paths : (h m : ℕ) → paths_in_use m * phases h ^ (m + 1) ≡ labels h m
labels_paths h m = rw (phases_pow h (m + 1)) (sym (pow-add 2 (path_bits m) (h * (m + 1))))

module _ (g : Gains) where
  abbrev h : ℕ
  h = g.shape.h

  abbrev m : ℕ
  m = g.shape.m

  abbrev q : ℕ
  q = phases h

  abbrev n : ℕ
  n = carriers m

  abbrev xs : List ℕ
  xs = g.numbers.now

  -- how many labels a path has
  abbrev size : ℕ
  size = q ^ (m + 1)

  range : InRange h m
  range = in_shape_range h m g.shape.in_range

  two : 2 ≤ q
  two = phases_least h m range

  -- the areas have room for the greatest shape, and so for each
  area_le : 2 * q ^ m ≤ area
  area_le =
      let top : ℕ = phases greatest_decoded in
      let a : q ^ m ≤ top ^ m = pow-le-pow_left (pow_mono g.few) m in
      let c : top ^ m ≤ top ^ greatest_m = pow-le-pow_right {n = top} (lit≤ tt) range.m_most in
      omega arith

  -- m is the number of stages
  stages : suc (m - 1) ≡ m
  stages = omega (arith, range.m_least)

  power_left : (b : ℕ) → b ^ m ≡ b * b ^ (m - 1)
  power_left b = ap (λ (k : ℕ). b ^ k) (sym stages) ∙ pow-succ' b (m - 1)

  halved : n / 2 ≡ 2 ^ (m - 1)
  halved = omega (arith, power_left 2)

  -- N is twice half of it
  twice : n ≡ 2 * (n / 2)
  twice = omega (arith, power_left 2)

  pub path_room : length xs ≤ area
  path_room =
      let a : 2 ^ (m - 1) ≤ q ^ (m - 1) = pow-le-pow_left two (m - 1) in
      let b : 2 * q * 2 ^ (m - 1) ≤ 2 * q * q ^ (m - 1) = mul-le-mul (le_refl (2 * q)) a in
      let c : q * n ≡ 2 * q * 2 ^ (m - 1) = ap (λ (k : ℕ). q * k) (power_left 2) ∙ omega arith in
      omega (arith, power_left q, g.long, area_le)

  module _ (number : ℕ) (used : number < paths_in_use m) where
    path_labels : number * size + size ≤ labels h m
    path_labels = omega (arith, labels_paths h m, times_within number (paths_in_use m) size used)

    pub path_first : number * size < labels h m
    path_first = omega (arith, path_labels, one-le-pow (m + 1) q (omega (arith, two)))

    pub path_counted : number * size ≤ most_labels
    path_counted = omega (arith, path_labels, messages_most h m range)

    -- the path's own word, put into the gains
    module _ (v : List ℕ) (e : v ≡ list_below n (word_at h m (number * size))) where
      long : length v ≡ n
      long = ap length e ∙ length_list_below n (word_at h m (number * size))

      pub path_word_fits : WordFits q v xs
      path_word_fits = record {
        long = g.long ∙ rw (sym long);
        symbols = λ i b. rw (e, list_below_at n (word_at h m (number * size)) i 0 (omega (arith, b, long)))
            (word_at_lt h m (number * size) i);
      }

      -- the table at the front of an area
      module _ (zs : List ℕ) (f : take (length xs) zs ≡ gains_with q (length v) v xs) where
        table_first : table_in q (n / 2) 1 zs ≡ gains_with q n v xs
        table_first =
            let k : 2 * (q * (n / 2)) * 1 ≡ length xs = omega (arith, g.long, ap (λ (k : ℕ). q * k) twice) in
            ap (λ (k : ℕ). take k zs) k ∙ f ∙ ap (λ (k : ℕ). gains_with q k v xs) long

        -- each number of it is a gain
        first_small : (i : ℕ) → get_or (gains_with q n v xs) i 0 * n ≤ most_total
        unfolding gains_with_at
        first_small i = at (dec_lt i (q * n))
          where
            at : Dec (i < q * n) → get_or (gains_with q n v xs) i 0 * n ≤ most_total
            at (yes b) = rw (gains_with_at_lem q n v xs i b) (g.small _)
            at (no b) =
                let past : length (gains_with q n v xs) ≤ i = omega (arith, b, length_gains_with q n v xs) in
                rw (get_or-eq_default (gains_with q n v xs) 0 past) (omega arith)

        first_runs : Runs q (n / 2) 1 (table_in q (n / 2) 1 zs)
        first_runs = record {
          symbols = omega (arith, two);
          halves = omega (arith, halved, one-le-pow (m - 1) 2 (lit< tt));
          run = omega arith;
          long = ap length table_first ∙ length_gains_with q n v xs ∙ omega (arith, ap (λ (k : ℕ). q * k) twice);
          small = λ i. rw (table_first, sym twice) (first_small i);
        }

        -- how many labels there are for each constant, and in all, as the stages count them
        width : 1 * q ^ suc (m - 1) ≡ q ^ m
        width = one-mul (q ^ suc (m - 1)) ∙ ap (λ (k : ℕ). q ^ k) stages

        all : 1 * q ^ suc (m - 1) * q ≡ size
        all = rw (width, add-one) (sym (pow-suc q m))

        pub path_climbing : (ys : List ℕ) → length zs ≡ area → length ys ≡ area →
            Climbing (m - 1) q (n / 2) 1 (number * size) zs ys
        path_climbing ys x y = record {
          halved = halved;
          symbols = two;
          runs = first_runs;
          first = omega (arith, x, power_left q, area_le);
          second = omega (arith, y, power_left q, area_le);
          counted = omega (arith, path_labels, all, messages_most h m range);
        }

        pub path_returned : (st r : Standing) → r ≡ wanted q (n / 2) 1 (number * size) zs st (m - 1) →
            r ≡ lead_from (number * size) (λ j. total_of h m xs (number * size + j)) size st
        path_returned st r back =
            let a : wanted q (n / 2) 1 (number * size) zs st (m - 1)
            ≡ lead_from (number * size) (by_label q (q ^ m) (climbs q m 1 (gains_with q n v xs))) size st =
            rw (all, width, table_first, stages) in
            back ∙ a ∙ lead_from_cong (number * size) _ _ size st total
          where
            total : (j : ℕ) → j < size →
                by_label q (q ^ m) (climbs q m 1 (gains_with q n v xs)) j ≡ total_of h m xs (number * size + j)
            total j b = rw e (by_label_total h m xs number j b)
