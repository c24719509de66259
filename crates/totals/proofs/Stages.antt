-- What the tables of the stages hold. Runs are numbered through symbol and place together, so that c symbols further on
-- is c n places further on, modulo the q n places of q symbols. After k stages run t holds, at number r, the sum of
-- what the first table holds at the 2^k places from t 2^k on, each of them as many symbols further on as the linear
-- form with the coefficients r adds there.
-- In order: a sum in two halves; before the first stage; one stage; all stages.
-- Not here: the tables by their runs (Runs), words (Words).  Assumes nothing.
use Prim.Native.Nat.{ℕ, zero, suc, ◌+◌, ◌*◌, ◌/◌, ◌%◌, ◌^◌, ◌<◌}
use native.Mathlib.Nat.{pow-zero, pow-suc, pow-succ', two-pow-succ, one-le-pow}
use native.Mathlib.Nat.{div-add-mod', div-lt_iff_lt-mul, mod-eq_of_lt, mod-lt}
use native.Mathlib.Omega.{arith}
use mathlib.Core.Path.{◌≡◌, sym, ◌∙◌, ap, ap₂}
use mathlib.Core.List.{List}
use lib.ListN.{get_or}
use lib.Pow.{pow-add}
use Rattle.range.specs.Below.{sum_below}
use Rattle.range.proofs.Remainders.{mod_scaled}
use Rattle.range.proofs.Sums.{sum_below_cong, sum_below_add}
use Rattle.totals.specs.Climb.{pair_at, climbed, climbs}
use Rattle.totals.proofs.Runs.{climbed_at_lem}
use Rattle.totals.proofs.Linear.{linear_at, linear_at_first, linear_at_second}

sum_below_halves : (k : ℕ) (f : ℕ → ℕ) →
    sum_below (2 ^ suc k) f ≡ sum_below (2 ^ k) f + sum_below (2 ^ k) (λ i. f (2 ^ k + i))
sum_below_halves k f = rw (two-pow-succ k) (sum_below_add (2 ^ k) (2 ^ k) f)

module _ (q n : ℕ) (f : ℕ → ℕ) where
  -- the place that number r of run t takes in at z
  abbrev takes : ℕ → ℕ → ℕ → ℕ → ℕ
  takes k t r z = (t * 2 ^ k + z + linear_at q k r z * n) % (q * n)

  unfoldable pub sum_at : ℕ → ℕ → ℕ → ℕ
  sum_at k t r = sum_below (2 ^ k) (λ z. f (takes k t r z))

  -- xs is the table after k stages, which has q times u runs
  abbrev pub Reached : ℕ → ℕ → List ℕ → Type 0
  Reached k u xs = (t r : ℕ) → t < q * u → r < q ^ k → get_or xs (t * q ^ k + r) 0 ≡ sum_at k t r

  pub reached_zero : (xs : List ℕ) → ((e : ℕ) → e < q * n → get_or xs e 0 ≡ f e) → Reached 0 n xs
  unfolding sum_at sum_below linear_at
  reached_zero xs same t r lt lr =
      let i : t * q ^ 0 + r ≡ t = rw (pow-zero q) (omega (arith, pow-zero q)) in
      let j : t * 2 ^ 0 + 0 + 0 * n ≡ t = omega arith in
      rw i (same t lt ∙ rw (j, mod-eq_of_lt lt) (omega arith))

  module _ (k u : ℕ) (e : u * 2 ^ suc k ≡ n) (t c r : ℕ) (lc : c < q) (lr : r < q ^ k) where
    -- the first half of the places stands where run 2 t had them
    takes_first : (z : ℕ) → z < 2 ^ k → takes (suc k) t (c * q ^ k + r) z ≡ takes k (2 * t) r z
    takes_first z lz =
        let i : t * 2 ^ suc k ≡ 2 * t * 2 ^ k = rw (pow-suc 2 k) (omega arith) in
        rw (i, linear_at_first q k c r z lc lr lz)

    -- run t, c symbols further on
    abbrev further : ℕ
    further = (t + c * u) % (q * u)

    -- the second half stands where the run after twice that one had them
    takes_second : (z : ℕ) → z < 2 ^ k →
        takes (suc k) t (c * q ^ k + r) (2 ^ k + z) ≡ takes k (2 * further + 1) r z
    takes_second z lz =
        let l : ℕ = linear_at q k r z in
        let rest : ℕ = 2 ^ k + z + l * n in
        let i : t * 2 ^ suc k + (2 ^ k + z) + (c + l) * n ≡ 2 ^ suc k * (t + c * u) + rest =
        omega (arith, ap (λ (x : ℕ). c * x) e) in
        let j : 2 ^ suc k * further + rest ≡ (2 * further + 1) * 2 ^ k + z + l * n = rw (pow-suc 2 k) (omega arith) in
        let all : q * n ≡ 2 ^ suc k * (q * u) = omega (arith, ap (λ (x : ℕ). q * x) e) in
        rw (linear_at_second q k c r z lc lr lz, i, ← j, all) (sym (mod_scaled (2 ^ suc k) (q * u) (t + c * u) rest))

    sum_at_suc : sum_at (suc k) t (c * q ^ k + r) ≡ sum_at k (2 * t) r + sum_at k (2 * further + 1) r
    unfolding sum_at
    sum_at_suc =
        sum_below_halves k (λ z. f (takes (suc k) t (c * q ^ k + r) z))
        ∙ ap₂ (λ (x y : ℕ). x + y) (sum_below_cong (2 ^ k) _ _ (λ z b. ap f (takes_first z b)))
        (sum_below_cong (2 ^ k) _ _ (λ z b. ap f (takes_second z b)))

    -- the two runs that a stage adds
    pair_reached : (xs : List ℕ) → Reached k (2 * u) xs → t < q * u →
        pair_at q u (q ^ k) xs t c r ≡ sum_at (suc k) t (c * q ^ k + r)
    unfolding pair_at
    pair_reached xs before lt =
        let lf : further < q * u = mod-lt (t + c * u) (omega arith) in
        rw (before (2 * t) r (omega arith) lr, before (2 * further + 1) r (omega arith) lr) (sym sum_at_suc)

  reached_suc : (k u : ℕ) (xs : List ℕ) → 0 < q → u * 2 ^ suc k ≡ n → Reached k (2 * u) xs →
      Reached (suc k) u (climbed q u (q ^ k) xs)
  reached_suc k u xs p e before t r lt lr =
      let w : ℕ = q ^ k in
      let c : ℕ = r / w in
      let b : ℕ = r % w in
      let pw : 0 < w = one-le-pow k q p in
      let lc : c < q = (div-lt_iff_lt-mul pw).1 (rw (pow-succ' q k) at lr) in
      let i : t * q ^ suc k + r ≡ (t * q + c) * w + b = rw (pow-succ' q k) (omega (arith, div-add-mod' r w)) in
      rw i (climbed_at_lem q u w xs t c b lt lc (mod-lt r pw)
      ∙ pair_reached k u e t c b lc (mod-lt r pw) xs before lt
      ∙ ap (λ (x : ℕ). sum_at (suc k) t x) (div-add-mod' r w))

-- d stages, the first of them stage k + 1
pub climbs_reached : (q m : ℕ) (f : ℕ → ℕ) (k d : ℕ) (xs : List ℕ) → 0 < q → k + d ≡ m →
    Reached q (2 ^ m) f k (2 ^ d) xs → Reached q (2 ^ m) f m 1 (climbs q d (q ^ k) xs)
unfolding climbs
climbs_reached q m f k zero xs p e before =
    let same : k ≡ m = omega arith in
    rw same at before
climbs_reached q m f k (suc d) xs p e before =
    let s : d + suc k ≡ m = omega arith in
    let all : 2 ^ d * 2 ^ suc k ≡ 2 ^ m = sym (pow-add 2 d (suc k)) ∙ ap (λ (x : ℕ). 2 ^ x) s in
    rw (← (pow-suc q k)) (climbs_reached q m f (suc k) d (climbed q (2 ^ d) (q ^ k) xs) p (omega arith)
    (reached_suc q (2 ^ m) f k (2 ^ d) xs p all (rw (pow-succ' 2 d) at before)))
