-- Small sums done by hand, of the rules that no starred case reaches: dictionary order, the spectrum and its stages,
-- what a four-phase symbol hears, refusal 6, Lee distance, the powers of a phase, autocorrelations, envelope powers,
-- and clean soft values. What a transform leaves and refuses: AreaSamples.  Assumes nothing.
use Prim.Native.Nat.{ℕ, suc}
use mathlib.Core.Path.{◌≡◌, refl}
use mathlib.Core.List.{[], ◌∷◌}
use lib.Dec.{lit<}
use lib.IntN.{ℤ, pos, negsuc}
use Rattle.range.specs.Below.{sum_below, list_below}
use Rattle.range.specs.Signed.{sumℤ}
use Rattle.rules.specs.Place.{digit}
use Rattle.rules.specs.Path.{Before, here, later}
use Rattle.rules.specs.Word.{symbol_at}
use Rattle.rules.specs.Pair.{minus}
use Rattle.rules.specs.Autocorrelation.{times_phase, phase_power, autocorrelation}
use Rattle.rules.specs.Envelope.{phase_at, envelope_power}
use Rattle.rules.specs.Soft.{heard, clean_at, clean}
use Rattle.rules.specs.Distance.{lee_of, lee}
use Rattle.rules.specs.Spectrum.{shared, spectrum_at, stage, stages}
use Rattle.rules.specs.Outcome.{refuses}
use Rattle.rules.specs.Refusal.{soft_refusal, hard_refusal}

-- 123 comes before 132, and that before 213
first_paths : Before (1 ∷ 2 ∷ 3 ∷ []) (1 ∷ 3 ∷ 2 ∷ []) × Before (1 ∷ 3 ∷ 2 ∷ []) (2 ∷ 1 ∷ 3 ∷ [])
first_paths = (later (here (lit< tt)), here (lit< tt))

-- 1, 2, 3, 4
abbrev pub count : ℕ → ℤ
count i = pos (suc i)

spectrum_of_count : list_below 4 (spectrum_at 2 count) ≡ pos 10 ∷ negsuc 1 ∷ negsuc 3 ∷ pos 0 ∷ []
unfolding list_below spectrum_at shared digit sum_below sumℤ
spectrum_of_count = refl

-- stage 1 takes places 2 apart, since x_1 is the most significant digit
first_stage : list_below 4 (stages 2 1 count) ≡ pos 4 ∷ pos 6 ∷ negsuc 1 ∷ negsuc 1 ∷ []
unfolding list_below stages stage digit
first_stage = refl

both_stages : list_below 4 (stages 2 2 count) ≡ pos 10 ∷ negsuc 1 ∷ negsuc 3 ∷ pos 0 ∷ []
unfolding list_below stages stage digit
both_stages = refl

-- re = 5 and im = 7 at place 1: symbols 0, 1, 2, 3 hear re, im, -re, -im
four_phases : list_below 4 (heard 2 (pos 1 ∷ pos 2 ∷ pos 5 ∷ pos 7 ∷ []) 1) ≡ pos 5 ∷ pos 7 ∷ negsuc 4 ∷ negsuc 6 ∷ []
unfolding list_below heard
four_phases = refl

-- eight phases are not decoded: 6, before the length is looked at
octary_refused : (soft_refusal 3 2 [] ≡ refuses 6 []) × (hard_refusal 3 2 [] ≡ refuses 6 [])
unfolding soft_refusal hard_refusal
octary_refused = (refl, refl)

-- 0 + 1 + 2 + 1 for four phases; of eight, 7 is 1 away, and 5 is 3
lee_four : lee 2 4 (symbol_at (0 ∷ 1 ∷ 2 ∷ 3 ∷ [])) (symbol_at []) ≡ 4
unfolding lee lee_of minus sum_below
lee_four = refl

lee_eight : lee 3 4 (symbol_at (7 ∷ 5 ∷ 4 ∷ 0 ∷ [])) (symbol_at []) ≡ 8
unfolding lee lee_of minus sum_below
lee_eight = refl

-- four phases: 1 and j are the coordinates, and the powers of j are 1, j, -1, -j
four_powers : list_below 4 (λ e. list_below 2 (phase_power 2 e)) ≡
    (pos 1 ∷ pos 0 ∷ []) ∷ (pos 0 ∷ pos 1 ∷ []) ∷ (negsuc 0 ∷ pos 0 ∷ []) ∷ (pos 0 ∷ negsuc 0 ∷ []) ∷ []
unfolding list_below phase_power times_phase
four_powers = refl

-- the starred pair 0002, 0020 of 01: at shifts 0, 1, 2, 3 they have 4, 1, 0, -1 and 4, -1, 0, 1, each with no j, which
-- cancel from shift 1 on
word_shifts : list_below 4 (λ u. list_below 2 (autocorrelation 2 4 (symbol_at (0 ∷ 0 ∷ 0 ∷ 2 ∷ [])) u)) ≡
    (pos 4 ∷ pos 0 ∷ []) ∷ (pos 1 ∷ pos 0 ∷ []) ∷ (pos 0 ∷ pos 0 ∷ []) ∷ (negsuc 0 ∷ pos 0 ∷ []) ∷ []
unfolding list_below autocorrelation sumℤ minus phase_power times_phase
word_shifts = refl

partner_shifts : list_below 4 (λ u. list_below 2 (autocorrelation 2 4 (symbol_at (0 ∷ 0 ∷ 2 ∷ 0 ∷ [])) u)) ≡
    (pos 4 ∷ pos 0 ∷ []) ∷ (negsuc 0 ∷ pos 0 ∷ []) ∷ (pos 0 ∷ pos 0 ∷ []) ∷ (pos 1 ∷ pos 0 ∷ []) ∷ []
unfolding list_below autocorrelation sumℤ minus phase_power times_phase
partner_shifts = refl

-- the later symbol is taken from the earlier one: 0 - 1 is three quarters of a turn, -j
later_taken_away : list_below 2 (autocorrelation 2 2 (symbol_at (0 ∷ 1 ∷ [])) 1) ≡ pos 0 ∷ negsuc 0 ∷ []
unfolding list_below autocorrelation sumℤ minus phase_power times_phase
later_taken_away = refl

-- the same pair at moments 0 and 1/4: 1 + 1 + 1 - 1 and 1 + j - 1 + j, 1 + 1 - 1 + 1 and 1 + j + 1 - j. All have power
-- 4, and 4 + 4 is 2 N
word_powers : list_below 2 (λ s. list_below 2 (envelope_power 2 4 (symbol_at (0 ∷ 0 ∷ 0 ∷ 2 ∷ [])) 2 s)) ≡
    (pos 4 ∷ pos 0 ∷ []) ∷ (pos 4 ∷ pos 0 ∷ []) ∷ []
unfolding list_below envelope_power phase_at sumℤ minus phase_power times_phase
word_powers = refl

partner_powers : list_below 2 (λ s. list_below 2 (envelope_power 2 4 (symbol_at (0 ∷ 0 ∷ 2 ∷ 0 ∷ [])) 2 s)) ≡
    (pos 4 ∷ pos 0 ∷ []) ∷ (pos 4 ∷ pos 0 ∷ []) ∷ []
unfolding list_below envelope_power phase_at sumℤ minus phase_power times_phase
partner_powers = refl

-- and at moment 1/8, where x is an eighth of a turn: 1 + x + x^2 - x^3 and 1 + x - x^2 + x^3 have the powers
-- 4 + 2 x - 2 x^3 and 4 - 2 x + 2 x^3, which are 4 + 2 sqrt 2 and 4 - 2 sqrt 2
word_eighth : list_below 4 (envelope_power 2 4 (symbol_at (0 ∷ 0 ∷ 0 ∷ 2 ∷ [])) 3 1) ≡
    pos 4 ∷ pos 2 ∷ pos 0 ∷ negsuc 1 ∷ []
unfolding list_below envelope_power phase_at sumℤ minus phase_power times_phase
word_eighth = refl

partner_eighth : list_below 4 (envelope_power 2 4 (symbol_at (0 ∷ 0 ∷ 2 ∷ 0 ∷ [])) 3 1) ≡
    pos 4 ∷ negsuc 1 ∷ pos 0 ∷ pos 2 ∷ []
unfolding list_below envelope_power phase_at sumℤ minus phase_power times_phase
partner_eighth = refl

-- symbols 0 and 1 at moment 1/4: the second carrier has turned on by a quarter, to 1 + j j = 0, and not back, to 1 + 1
moment_turns_on : list_below 2 (envelope_power 2 2 (symbol_at (0 ∷ 1 ∷ [])) 2 1) ≡ pos 0 ∷ pos 0 ∷ []
unfolding list_below envelope_power phase_at sumℤ minus phase_power times_phase
moment_turns_on = refl

-- the known word 3 1 0 0 at amplitude 3, with no noise: -3 j, 3 j, 3, 3, real part before imaginary
clean_four : clean 2 2 3 (3 ∷ 1 ∷ 0 ∷ 0 ∷ []) ≡
    pos 0 ∷ negsuc 2 ∷ pos 0 ∷ pos 3 ∷ pos 3 ∷ pos 0 ∷ pos 3 ∷ pos 0 ∷ []
unfolding clean clean_at list_below
clean_four = refl
