-- THE LAW of distances: the words of two labels lie far apart, whichever paths they have. In order: two words that lie
-- closer are of the same path, coefficients and constant, so of the same label; the law for any weight of differences;
-- for differing places, which are a quarter of all at least, of any two paths and of two that are in use; for Lee
-- distance from four phases on, which is half the number of places at least; for 01's distance, which is not 0.
-- Not here: what a difference in one part weighs (PartsApart), that equal words are of one label (Inject).  Assumes
-- nothing.
use Prim.Native.Nat.{ℕ, ◌-◌, ◌*◌, ◌%◌, ◌^◌, ◌≤◌, ◌<◌}
use native.Mathlib.Nat.{le_refl, mul-le-mul}
use native.Mathlib.Decide.{ℕ_discrete}
use native.Mathlib.Omega.{arith, by_contra}
use mathlib.Core.Path.{◌≡◌}
use mathlib.Core.Logic.Dec
use mathlib.Core.Logic.{◌≢◌}
use lib.Dec.{T}
use lib.ListN.{length}
use lib.Pow.{pow_pos, pow_mono}
use Rattle.rules.specs.Shape.{phases, half_turn, carriers, in_m}
use Rattle.rules.specs.Path.{paths, path_at}
use Rattle.rules.specs.Label.{labels, label_path, coefficient, constant}
use Rattle.rules.specs.Word.{word_at}
use Rattle.rules.specs.Distance.{hamming, lee_of, lee, distance}
use Rattle.rules.proofs.Range.{phases_half, in_m_least}
use Rattle.rules.proofs.SymbolLaws.{word_at_lt}
use Rattle.places.proofs.Twins.{carriers_blocks}
use Rattle.paths.proofs.Members.{path_at_is_path}
use Rattle.paths.proofs.Links.{path_of_links}
use Rattle.paths.proofs.Increasing.{path_at_inj}
use Rattle.paths.proofs.Number.{used_lt}
use Rattle.signals.proofs.Weights.{Weight, weigh, differs, differs_one, differs_weight, hamming_weigh}
use Rattle.signals.proofs.Weights.{lee_weight, lee_weigh}
use Rattle.signals.proofs.Metric.{distance_weigh}
use Rattle.words.proofs.Labels.{label_inj, label_path_lt}
use Rattle.words.proofs.Used.{is_path_good}
use Rattle.distances.proofs.Gaps.{Positive}
use Rattle.distances.proofs.PartsApart.{apart, pair_links, apart_of_links}
use Rattle.distances.proofs.PartsApart.{apart_of_coefficient, apart_of_constant}

module _ (h m l k c : ℕ) (ω : ℕ → ℕ) (weight : Weight (phases h) ω) (positive : Positive (phases h) ω) (pos : 1 ≤ h)
    (ll : label_path h m l < length (paths m)) (lk : label_path h m k < length (paths m)) (two : c ≤ 2)
    (half : c ≤ ω (half_turn h))
    (close : 4 * apart ω h m l k < carriers m * c) where
  -- c at each place, where c is at most b
  most : (b : ℕ) → c ≤ b → carriers m * c ≤ carriers m * b
  most b u = mul-le-mul {n₁ = carriers m} {m₁ = c} {n₂ = carriers m} {m₂ = b} (le_refl (carriers m)) u

  close_links : (a b : ℕ) → 1 ≤ a → a < b → b ≤ m →
      pair_links h m l a b % 2 ≡ pair_links h m k a b % 2
  close_links a b la lb lm =
      (Dec.not-not (ℕ_discrete _ _)).0 (λ n. omega (
        arith,
        most (ω (half_turn h)) half,
        apart_of_links h m l k ω weight a b la lb lm pos (is_path_good m _ (path_at_is_path m _ ll))
            (is_path_good m _ (path_at_is_path m _ lk)) n,
      ))

  close_path : path_at m (label_path h m l) ≡ path_at m (label_path h m k)
  close_path =
      path_of_links m _ _ (path_at_is_path m _ ll) (path_at_is_path m _ lk) close_links

  close_number : label_path h m l ≡ label_path h m k
  close_number = path_at_inj m _ _ ll lk close_path

  close_coefficient : (r : ℕ) → 1 ≤ r → r ≤ m → coefficient h m l r ≡ coefficient h m k r
  close_coefficient r a b =
      (Dec.not-not (ℕ_discrete _ _)).0 (λ n. omega (
        arith,
        most 2 two,
        apart_of_coefficient h m l k ω weight close_path positive r a b n,
      ))

  close_constant : constant h l ≡ constant h k
  close_constant =
      (Dec.not-not (ℕ_discrete _ _)).0 (λ n. omega (
        arith,
        most 2 two,
        apart_of_constant h m l k ω weight close_path positive close_coefficient n,
      ))

  close_label : l ≡ k
  close_label = label_inj h m l k close_number close_coefficient close_constant

-- c for each fourth place at least, for any c up to 2 and up to what half a turn weighs
pub weigh_apart : (h m l k c : ℕ) (ω : ℕ → ℕ) → Weight (phases h) ω → Positive (phases h) ω → 1 ≤ h →
    label_path h m l < length (paths m) → label_path h m k < length (paths m) → l ≢ k → c ≤ 2 → c ≤ ω (half_turn h) →
    carriers m * c ≤ 4 * weigh ω (phases h) (carriers m) (word_at h m l) (word_at h m k)
weigh_apart h m l k c ω weight positive pos ll lk n two half =
    by_contra (carriers m * c) (4 * apart ω h m l k)
    (λ close. n (close_label h m l k c ω weight positive pos ll lk two half close))

-- the path of a label of the shape is one of the list
listed : (h m l : ℕ) → T (in_m m) → l < labels h m → label_path h m l < length (paths m)
listed h m l range b = used_lt m (label_path h m l) range (label_path_lt h m l b)

pub hamming_listed : (h m l k : ℕ) → 1 ≤ h → 2 ≤ m → label_path h m l < length (paths m) →
    label_path h m k < length (paths m) → l ≢ k → 2 ^ (m - 2) ≤ hamming (carriers m) (word_at h m l) (word_at h m k)
hamming_listed h m l k pos two ll lk n =
    let positive : Positive (phases h) differs = λ d p _. omega (arith, differs_one d p) in
    omega (
      arith,
      hamming_weigh (phases h) (carriers m) _ _ (λ i _. word_at_lt h m l i) (λ i _. word_at_lt h m k i),
      weigh_apart h m l k 1 differs (differs_weight (phases h)) positive pos ll lk n (omega arith)
          (omega (arith, differs_one (half_turn h) (pow_pos (h - 1)))),
      carriers_blocks m 2 two,
    )

pub hamming_apart : (h m l k : ℕ) → 1 ≤ h → T (in_m m) → l < labels h m → k < labels h m → l ≢ k →
    2 ^ (m - 2) ≤ hamming (carriers m) (word_at h m l) (word_at h m k)
hamming_apart h m l k pos range ll lk n =
    hamming_listed h m l k pos (in_m_least m range) (listed h m l range ll) (listed h m k range lk) n

lee_of_positive : (h : ℕ) → Positive (phases h) (lee_of h)
unfolding lee_of
lee_of_positive h d p u = omega arith

lee_of_half : (h : ℕ) → 2 ≤ h → 2 ≤ lee_of h (half_turn h)
unfolding lee_of
lee_of_half h u = omega (arith, phases_half h (omega arith), pow_mono {i = 1} {j = h - 1} (omega arith))

pub lee_apart : (h m l k : ℕ) → 2 ≤ h → T (in_m m) → l < labels h m → k < labels h m → l ≢ k →
    2 ^ (m - 1) ≤ lee h (carriers m) (word_at h m l) (word_at h m k)
lee_apart h m l k u range ll lk n =
    let pos : 1 ≤ h = omega arith in
    omega (
      arith,
      lee_weigh h (carriers m) (word_at h m l) (word_at h m k),
      weigh_apart h m l k 2 (lee_of h) (lee_weight h) (lee_of_positive h) pos (listed h m l range ll)
          (listed h m k range lk) n (le_refl 2) (lee_of_half h u),
      carriers_blocks m 1 (omega (arith, in_m_least m range)),
    )

-- so 01's distance between them is not 0, whatever h is
pub distance_apart : (h m l k : ℕ) → 1 ≤ h → T (in_m m) → l < labels h m → k < labels h m → l ≢ k →
    1 ≤ distance h (carriers m) (word_at h m l) (word_at h m k)
distance_apart h m l k pos range ll lk n =
    let half : 1 ≤ lee_of h (half_turn h) =
    lee_of_positive h (half_turn h) (pow_pos (h - 1)) (omega (arith, phases_half h pos, pow_pos (h - 1))) in
    omega (
      arith,
      pow_pos m,
      distance_weigh h (carriers m) _ _ (λ i _. word_at_lt h m l i) (λ i _. word_at_lt h m k i),
      weigh_apart h m l k 1 (lee_of h) (lee_weight h) (lee_of_positive h) pos (listed h m l range ll)
          (listed h m k range lk) n (omega arith) half,
    )
