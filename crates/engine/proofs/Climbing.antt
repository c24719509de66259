-- The stages one after the other: specs/SearchTables.antt, Climbing. In order: powers; the numbers of the next table
-- stay small; what the stages answer; no stage is left but the last, or one at least; what the last stage may be given,
-- and what it answers; what one stage may be given, what the stages after it may be given, and what they answer.
-- Not here: where the runs of one table lie (RunLaws).  Assumes nothing.
use Prim.Native.Nat.{ℕ, suc, ◌+◌, ◌-◌, ◌*◌, ◌/◌, ◌^◌, ◌≤◌, ◌<◌}
use native.Mathlib.Nat.{mul-le-mul, mul-one, pow-zero, pow-succ', pow-le-pow_left, le_refl, one-le-pow}
use native.Mathlib.Decide.{dec_lt}
use native.Mathlib.Omega.{arith}
use mathlib.Core.Path.{◌≡◌, sym, ◌∙◌, ap, subst}
use mathlib.Core.List.{List}
use lib.Dec.{lit<}
use lib.ListN.{length, get_or, take, get_or-eq_default}
use Rattle.range.proofs.Lists.{list_below_at}
use Rattle.totals.specs.Climb.{pair_at, climbed_at, climbed, climbs, by_label}
use Rattle.totals.proofs.Runs.{length_climbed}
use Rattle.standing.specs.declared.Standing.{Standing}
use Rattle.standing.specs.Lead.{lead_from}
use Rattle.engine.specs.Search.{most_labels}
use Rattle.engine.specs.SearchTables.{most_total, Runs, table_in, Climbing}

pow_one : (q : ℕ) → q ^ 1 ≡ q
pow_one q = pow-succ' q 0 ∙ rw (pow-zero q) (mul-one q)

-- two powers of two to one digit
halving : (e half : ℕ) → half ≡ 2 ^ suc e → (half / 2 ≡ 2 ^ e) × (half ≡ 2 * (half / 2))
halving e half p =
    let q : 2 ^ suc e ≡ 2 * 2 ^ e = pow-succ' 2 e in
    (omega arith, omega arith)

-- no sum of a table is above what the stages after it allow
climbed_small : (q half w : ℕ) (xs : List ℕ) → Runs q half w xs → (i : ℕ) →
    get_or (climbed q half w xs) i 0 * half ≤ most_total
unfolding climbed climbed_at pair_at
climbed_small q half w xs p i = at (dec_lt i (q * half * q * w))
  where
    sum_small : (j k : ℕ) → (get_or xs j 0 + get_or xs k 0) * half ≤ most_total
    sum_small j k = omega (arith, p.small j, p.small k)

    at : Dec (i < q * half * q * w) → get_or (climbed q half w xs) i 0 * half ≤ most_total
    at (yes l) = rw (list_below_at (q * half * q * w) (climbed_at q half w xs) i 0 l) (sum_small _ _)
    at (no n) =
        let b : length (climbed q half w xs) ≤ i = omega (arith, length_climbed q half w xs) in
        rw (get_or-eq_default (climbed q half w xs) 0 b) (omega arith)

-- what d stages and the last answer
abbrev pub wanted : ℕ → ℕ → ℕ → ℕ → List ℕ → Standing → ℕ → Standing
wanted q half w l xs st d =
    lead_from l (by_label q (w * q ^ suc d) (climbs q (suc d) w (table_in q half w xs))) (w * q ^ suc d * q) st

-- no stage is left but the last, or one at least
pub none_left : {q half w l : ℕ} {xs ys : List ℕ} (d : ℕ) → d ≡ 0 → Climbing d q half w l xs ys →
    Climbing 0 q half w l xs ys
none_left {q = q} {half = half} {w = w} {l = l} {xs = xs} {ys = ys} d e =
    subst (λ (k : ℕ). Climbing k q half w l xs ys) e

pub some_left : {q half w l : ℕ} {xs ys : List ℕ} (d : ℕ) → (d ≡ 0 → ⊥) → Climbing d q half w l xs ys →
    Climbing (suc (d - 1)) q half w l xs ys
some_left {q = q} {half = half} {w = w} {l = l} {xs = xs} {ys = ys} d n =
    let e : d ≡ suc (d - 1) = omega arith in
    subst (λ (k : ℕ). Climbing k q half w l xs ys) e

module _ (q half w l : ℕ) (xs ys : List ℕ) (p : Climbing 0 q half w l xs ys) where
  -- the last stage
  pub climbing_last : (half ≡ 1) × (l + q * (w * q) ≤ most_labels)
  climbing_last = (
    p.halved ∙ pow-zero 2,
    omega (arith, p.counted, ap (λ (k : ℕ). w * k * q) (pow_one q)),
  )

  pub climbing_done : (st r : Standing) →
      r ≡ lead_from l (by_label q (w * q) (climbed q 1 w (table_in q half w xs))) (q * (w * q)) st →
      r ≡ wanted q half w l xs st 0
  unfolding climbs
  climbing_done st r e =
      let f : ℕ → ℕ = by_label q (w * q) (climbed q 1 w (table_in q half w xs)) in
      let n : q * (w * q) ≡ w * q * q = omega arith in
      rw (pow_one q) (e ∙ ap (λ (k : ℕ). lead_from l f k st) n)

module _ (e q half w l : ℕ) (xs ys : List ℕ) (p : Climbing (suc e) q half w l xs ys) where
  -- one stage before others
  size_next : q * half * q * w ≡ 2 * (q * (half / 2)) * (w * q)
  size_next = omega (arith, ap (λ (k : ℕ). q * k * q * w) (halving e half p.halved).1)

  pub climbing_room : q * half * q * w ≤ length ys
  climbing_room =
      let b : 2 ^ e ≤ q ^ e = pow-le-pow_left p.symbols e in
      let c : 2 * q * w * q * 2 ^ e ≤ 2 * q * w * q * q ^ e = mul-le-mul (le_refl (2 * q * w * q)) b in
      let h : q * half * q * w ≡ 2 * q * w * q * 2 ^ e =
      ap (λ (k : ℕ). q * k * q * w) (p.halved ∙ pow-succ' 2 e) ∙ omega arith in
      let t : 2 * q * w * q ^ suc e ≡ 2 * q * w * q * q ^ e =
      ap (λ (k : ℕ). 2 * q * w * k) (pow-succ' q e) ∙ omega arith in
      omega (arith, p.second)

  module _ (zs : List ℕ) (f : take (q * half * q * w) zs ≡ climbed q half w (table_in q half w xs)) where
    table_next : table_in q (half / 2) (w * q) zs ≡ climbed q half w (table_in q half w xs)
    table_next = ap (λ (k : ℕ). take k zs) (sym size_next) ∙ f

    runs_next : Runs q (half / 2) (w * q) (table_in q (half / 2) (w * q) zs)
    runs_next = record {
      symbols = p.runs.symbols;
      halves = omega (arith, (halving e half p.halved).0, one-le-pow e 2 (lit< tt));
      run = mul-le-mul {n₁ = 1} {m₁ = 1} {n₂ = w} {m₂ = q} p.runs.run p.runs.symbols;
      long = ap length table_next ∙ length_climbed q half w (table_in q half w xs) ∙ size_next;
      small = λ i. rw (table_next, sym (halving e half p.halved).1)
          (climbed_small q half w (table_in q half w xs) p.runs i);
    }

    pub climbing_next : length zs ≡ length ys → Climbing e q (half / 2) (w * q) l zs xs
    climbing_next s =
        let t : 2 * q * (w * q) * q ^ e ≡ 2 * q * w * q ^ suc e =
        omega (arith, ap (λ (k : ℕ). 2 * q * w * k) (pow-succ' q e)) in
        record {
          halved = (halving e half p.halved).0;
          symbols = p.symbols;
          runs = runs_next;
          first = omega (arith, p.second);
          second = omega (arith, p.first);
          counted = omega (arith, p.counted, ap (λ (k : ℕ). w * k * q) (pow-succ' q (suc e)));
        }

    pub climbing_returned : (st r : Standing) →
        r ≡ wanted q (half / 2) (w * q) l zs st e → r ≡ wanted q half w l xs st (suc e)
    unfolding climbs
    climbing_returned st r g =
        let n : w * q ^ suc (suc e) ≡ w * q * q ^ suc e = ap (λ (k : ℕ). w * k) (pow-succ' q (suc e)) ∙ omega arith in
        rw (n, sym p.halved) (rw table_next at g)
