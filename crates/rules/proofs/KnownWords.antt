-- Every starred case of 01 is right: the one claim about the list of specs/Known.antt, by computation.
-- In order: a shape outside its range; the soft case; the hard case; silence; the claim.  Assumes nothing.
use Prim.Native.Nat.{ℕ}
use native.Mathlib.Omega.{arith}
use mathlib.Core.Path.{◌≡◌, refl}
use mathlib.Core.Bool.{true, false, and-false}
use mathlib.Core.List.{[], ◌∷◌, flat_map}
use lib.Dec.{lit<, leb, leb→le}
use lib.IntN.{pos}
use lib.ListN.{length-replicate}
use lib.Signed.{le_z}
use borrow.Author.Tests.{eqb-false}
use Rattle.range.specs.Below.{sum_below, count_below, all_below, first_below, list_below}
use Rattle.range.specs.Signed.{sumℤ}
use Rattle.rules.specs.Shape.{path_bits, in_h, in_m}
use Rattle.rules.specs.Place.{digit}
use Rattle.rules.specs.Path.{keep, without, orders, up_to, paths, path_at}
use Rattle.rules.specs.Label.{labels, label_path, coefficient, constant, label_parts, label_of}
use Rattle.rules.specs.Word.{links, form_at, word_at, partner_at, word_of, partner_of}
use Rattle.rules.specs.Pair.{minus, phase_count, pair_count, golay_pair}
use Rattle.rules.specs.Distance.{hamming, distance, distance_to}
use Rattle.rules.specs.Soft.{heard, correlation, soft_length}
use Rattle.rules.specs.Best.{AtMost, AtLeast}
use Rattle.rules.specs.Table.{bad_shape, bad_symbol, message_with}
use Rattle.rules.specs.Refusal.{send_refusal, pair_refusal, pair_outcome, word_refusal, read_outcome, soft_refusal}
use Rattle.rules.specs.Refusal.{hard_refusal, transform_refusal}
use Rattle.rules.specs.Known.{Refused1, reaching, Right, AllRight, starred, four_least, outside_m, soft, hard}
use Rattle.rules.specs.Known.{silence}
use Rattle.rules.proofs.Range.{in_shape_range}
use Rattle.rules.proofs.RefusalLaws.{soft_allowed}
use Rattle.rules.proofs.BestLaws.{best_of_tests, tied_of_another}
use Rattle.rules.proofs.Silence.{loud_of_zeros}

-- a shape outside its range is refused 1 by every call
refused_one : (h m : ℕ) → bad_shape h m ≡ true → Refused1 h m
unfolding send_refusal pair_outcome pair_refusal read_outcome word_refusal soft_refusal hard_refusal
refused_one h m e n g a b ys = (rw e, rw e, rw e, rw e, rw e)

outside_m_lem : (m : ℕ) → in_m m ≡ false → Right (outside_m m)
unfolding transform_refusal
outside_m_lem m e = (λ h. refused_one h m (rw (e, and-false (in_h h))), λ y n. rw e)

soft_right : Right (soft 1 2 four_least (record { message = 1; value = pos 65536; tied = true }) (3 ∷ 5 ∷ 6 ∷ []))
unfolding
    soft_refusal all_below correlation sumℤ heard word_at form_at links digit path_at paths keep without orders up_to
    list_below flat_map label_path coefficient constant label_of path_bits sum_below reaching
soft_right = let value = correlation 1 2 four_least in (
  record {
    taken = refl;
    right = record {
      inside = lit< tt;
      best = best_of_tests (labels 1 2) AtMost value le_z (λ u v t. t) 1 (lit< tt) tt refl refl;
      tie = tied_of_another (labels 1 2) value 1 (pos 65536) 3 (lit< tt) (eqb-false 3 1 refl) refl;
    };
  },
  refl,
)

hard_right : Right (hard 1 2 (1 ∷ 1 ∷ 1 ∷ 1 ∷ []) (record { message = 1; value = 1; tied = true }))
unfolding
    hard_refusal bad_symbol first_below all_below count_below hamming distance word_at form_at links digit path_at paths
    keep without orders up_to list_below flat_map label_path coefficient constant label_of path_bits sum_below
hard_right = let value = distance_to 1 2 (1 ∷ 1 ∷ 1 ∷ 1 ∷ []) in record {
  taken = refl;
  right = record {
    inside = lit< tt;
    best = best_of_tests (labels 1 2) AtLeast value (λ d e. leb e d) (λ d e t. omega (arith, leb→le e d t)) 1 (lit< tt)
        tt refl refl;
    tie = tied_of_another (labels 1 2) value 1 1 3 (lit< tt) (eqb-false 3 1 refl) refl;
  };
}

silence_right : Right silence
silence_right h m e two = record {
  taken = soft_allowed h m _ (record { shape = e; few = two; long = length-replicate (soft_length h m) (pos 0) });
  right = loud_of_zeros h m (in_shape_range h m e).h_least;
}

infixr 5 ◌&◌
◌&◌ : {A B : Type 0} → A → B → A × B
a & b = (a, b)

pub known : AllRight starred
unfolding
    ◌&◌ starred word_of partner_of word_at partner_at form_at links digit path_at paths keep without orders up_to
    list_below flat_map label_path coefficient constant label_parts label_of path_bits sum_below count_below all_below
    first_below minus phase_count pair_count golay_pair bad_symbol message_with send_refusal pair_refusal pair_outcome
    word_refusal read_outcome
known =
    (refl, refl) & (refl, refl) & refl
    & (refl, refl) & (refl, refl) & (refl, refl)
    & (refl, refl) & (refl, refl) & (refl, refl) & (refl, refl)
    & (refl, refl) & (refl, refl) & (refl, refl)
    & refl & refl & refl & refl
    & outside_m_lem 1 refl & outside_m_lem 6 refl & (λ m. refused_one 0 m refl) & (λ m. refused_one 4 m refl)
    & soft_right & (refl, refl) & silence_right & hard_right & refl & tt
