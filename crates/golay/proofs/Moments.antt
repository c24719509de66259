-- The phases of the carriers at a moment of the symbol period: rules' Envelope. At every moment the phases of two words
-- that are a pair are themselves a pair.
-- Defines:  moved h r s u d    what moment s / 2^r makes of a difference d of the symbols at two places u apart: s u
--                              steps fewer, which are s u (2^r - 1) steps more
-- In order: whole turns; the steps of 2^r phases in one of 2^h, and in half a turn; moved keeps half a turn, and makes
-- the difference of the phases out of that of the symbols; the phases; the pair.
-- Not here: what follows for the powers (Envelopes), maps that keep half a turn (HalfMaps).  Assumes nothing.
use Prim.Native.Nat.{ℕ, suc, ◌+◌, ◌-◌, ◌*◌, ◌%◌, ◌^◌, ◌≤◌, ◌<◌}
use native.Mathlib.Nat.{mod-lt, mod-add-mod, add-mul-mod_self_right, mul-suc}
use native.Mathlib.Omega.{arith}
use mathlib.Core.Path.{◌≡◌, sym, ◌∙◌, ap}
use lib.Pow.{pow_pos, pow-add}
use Rattle.range.specs.Below.{sum_below}
use Rattle.range.proofs.Remainders.{mod_scaled}
use Rattle.range.proofs.Sums.{sum_below_cong}
use Rattle.rules.specs.Shape.{phases, half_turn, carriers}
use Rattle.rules.specs.Pair.{minus, pair_count, GolayPair}
use Rattle.rules.specs.Envelope.{phase_at}
use Rattle.rules.proofs.Differences.{minus_add_of_lt, minus_of_sum}
use Rattle.golay.proofs.Turning.{apart, hits, pair_count_sum}
use Rattle.golay.proofs.HalfMaps.{KeepsHalf, hits_mapped}

abbrev moved : ℕ → ℕ → ℕ → ℕ → ℕ → ℕ
moved h r s u d = (2 ^ (r - h) * d + s * u * (phases r - 1)) % phases r

-- w turns but for one step of each, and those steps
turns_rest : (q w : ℕ) → 0 < q → w * (q - 1) + w ≡ w * q
turns_rest q w p =
    let e : q ≡ suc (q - 1) = omega arith in
    sym (mul-suc w (q - 1)) ∙ ap (λ (k : ℕ). w * k) (sym e)

module _ (h r : ℕ) (one : 1 ≤ h) (le : h ≤ r) where
  steps_turn : 2 ^ (r - h) * phases h ≡ phases r
  steps_turn = sym (pow-add 2 (r - h) h) ∙ ap (λ (n : ℕ). 2 ^ n) (omega arith)

  steps_half : 2 ^ (r - h) * half_turn h ≡ half_turn r
  steps_half = sym (pow-add 2 (r - h) (h - 1)) ∙ ap (λ (n : ℕ). 2 ^ n) (omega arith)

  steps_mod : (x v : ℕ) → (2 ^ (r - h) * (x % phases h) + v) % phases r ≡ (2 ^ (r - h) * x + v) % phases r
  steps_mod x v = rw (← steps_turn) (mod_scaled (2 ^ (r - h)) (phases h) x v)

  moved_half : (s u k : ℕ) → moved h r s u ((k + half_turn h) % phases h) ≡ (moved h r s u k + half_turn r) % phases r
  moved_half s u k =
      let v : ℕ = s * u * (phases r - 1) in
      let e : 2 ^ (r - h) * (k + half_turn h) + v ≡ 2 ^ (r - h) * k + v + half_turn r = omega (arith, steps_half) in
      steps_mod (k + half_turn h) v ∙ rw e (sym (mod-add-mod (2 ^ (r - h) * k + v) (phases r) (half_turn r)))

  keeps_half_moved : (s u : ℕ) → KeepsHalf h r (moved h r s u)
  keeps_half_moved s u = record {
    inside = λ k. mod-lt (2 ^ (r - h) * k + s * u * (phases r - 1)) (pow_pos r);
    half = λ k _. moved_half s u k;
  }

  -- with the phase of symbol y at place i + u it gives that of symbol x at place i
  moved_add : (x y s i u : ℕ) → x < phases h → y < phases h →
      (2 ^ (r - h) * minus (phases h) x y + s * u * (phases r - 1) + (2 ^ (r - h) * y + s * (i + u))) % phases r
      ≡ (2 ^ (r - h) * x + s * i) % phases r
  moved_add x y s i u p q =
      let d : ℕ = minus (phases h) x y in
      let c : ℕ = 2 ^ (r - h) in
      let e : c * d + s * u * (phases r - 1) + (c * y + s * (i + u)) ≡ c * (d + y) + s * i + s * u * phases r =
      omega (arith, turns_rest (phases r) (s * u) (pow_pos r)) in
      rw e
      (add-mul-mod_self_right (c * (d + y) + s * i) (s * u) (phases r)
      ∙ sym (steps_mod (d + y) (s * i))
      ∙ ap (λ (k : ℕ). (c * k + s * i) % phases r) (minus_add_of_lt (phases h) x y p q))

  apart_moved : (a : ℕ → ℕ) (s u i : ℕ) → a i < phases h → a (i + u) < phases h →
      apart r (phase_at h a r s) u i ≡ moved h r s u (apart h a u i)
  unfolding phase_at
  apart_moved a s u i p q =
      minus_of_sum (phases r) (2 ^ (r - h) * apart h a u i + s * u * (phases r - 1)) (2 ^ (r - h) * a i + s * i)
      (2 ^ (r - h) * a (i + u) + s * (i + u)) (pow_pos r) (moved_add (a i) (a (i + u)) s i u p q)

pub phase_at_lt : (h : ℕ) (a : ℕ → ℕ) (r s i : ℕ) → phase_at h a r s i < phases r
unfolding phase_at
phase_at_lt h a r s i = mod-lt (2 ^ (r - h) * a i + s * i) (pow_pos r)

module _ (h m : ℕ) (a b : ℕ → ℕ) (r s : ℕ) (one : 1 ≤ h) (le : h ≤ r)
    (ina : (i : ℕ) → i < carriers m → a i < phases h) (inb : (i : ℕ) → i < carriers m → b i < phases h) where
  pair_count_moved : (u k : ℕ) →
      pair_count r (carriers m) (phase_at h a r s) (phase_at h b r s) u k
      ≡ sum_below (carriers m - u) (λ i. hits r (moved h r s u (apart h a u i)) (moved h r s u (apart h b u i)) k)
  pair_count_moved u k =
      pair_count_sum r (carriers m) (phase_at h a r s) (phase_at h b r s) u k
      ∙ sum_below_cong (carriers m - u) _ _ (λ i l. rw (
        apart_moved h r one le a s u i (ina i (omega arith)) (ina (i + u) (omega arith)),
        apart_moved h r one le b s u i (inb i (omega arith)) (inb (i + u) (omega arith)),
      ))

  pub golay_pair_moment : GolayPair h m a b → GolayPair r m (phase_at h a r s) (phase_at h b r s)
  golay_pair_moment g u p q k _ =
      pair_count_moved u k
      ∙ hits_mapped h (carriers m) a b u (g u p q) r (moved h r s u) k one (omega arith)
      (keeps_half_moved h r one le s u)
      ∙ sym (pair_count_moved u (k + half_turn r))
