-- Every theorem of the index (specs/Theorems.antt) holds.  Assumes nothing.
use Prim.Native.Nat.{ℕ}
use native.Mathlib.Nat.{le_trans}
use native.Mathlib.Omega.{arith}
use mathlib.Core.Path.{◌≡◌, sym, ◌∙◌, subst}
use mathlib.Core.List.{List, []}
use mathlib.Core.Logic.{◌↔◌}
use lib.Dec.{T}
use lib.ListN.{length}
use Rattle.range.specs.Below.{list_below}
use Rattle.rules.specs.Shape.{carriers}
use Rattle.rules.specs.Label.{label_of}
use Rattle.rules.specs.Word.{word_at, word_of, partner_of}
use Rattle.rules.specs.Distance.{distance}
use Rattle.rules.specs.Outcome.{Outcome, gives, refuses}
use Rattle.rules.specs.Refusal.{pair_outcome, read_outcome, transform_refusal, send_refusal}
use Rattle.rules.proofs.Range.{in_shape_range, range_in_m}
use Rattle.rules.proofs.OrderLaws.{before_asymm, before_trans}
use Rattle.rules.proofs.Messages.{label_of_lt, label_of_inj}
use Rattle.signals.proofs.Sizes.{correlation_size}
use Rattle.signals.proofs.Units.{unit_two, unit_four}
use Rattle.signals.proofs.Noiseless.{clean_size}
use Rattle.paths.proofs.Members.{path_iff}
use Rattle.paths.proofs.Increasing.{paths_increasing}
use Rattle.paths.proofs.Number.{length_paths, paths_in_use_le, paths_in_use_most}
use Rattle.words.proofs.Labels.{coefficient_lt, constant_lt, message_bits_lem}
use Rattle.words.proofs.Partners.{partner_of_not_word_of}
use Rattle.golay.proofs.Autocorrelations.{cancel_iff_counts}
use Rattle.spectrum.proofs.Entries.{stages_spectrum}
use Rattle.distances.proofs.Apart.{hamming_apart, lee_apart}
use Rattle.distances.proofs.Inject.{unused_not_word_of}
use Rattle.encoder.proofs.Unique.{sent_unique}
use Rattle.pair.proofs.Unique.{paired_unique}
use Rattle.reader.proofs.Unique.{reading_unique}
use Rattle.refusals.proofs.Unique.{judged_unique}
use Rattle.transform.proofs.Unique.{ran_unique, handed_unique, at_last_unique}
use Rattle.answers.specs.Decoded.{heard_told, matched_told}
use Rattle.answers.proofs.Unique.{hears_unique, matches_unique, hears_found, matches_found}
use Rattle.theorems.specs.Rows.{SendRow, PairRow, ReadRow, TransformRow, read_5, read_gives}
use Rattle.theorems.specs.Demand1.{Demand1}
use Rattle.theorems.specs.Demand2.{Demand2}
use Rattle.theorems.specs.Demand3.{Demand3}
use Rattle.theorems.specs.Transforms.{Transforms}
use Rattle.theorems.specs.Further.{Further}
use Rattle.theorems.specs.Theorems.{Theorems}
use Rattle.theorems.proofs.Slices.{labelled_symbols, sent_writes, sent_keeps}
use Rattle.theorems.proofs.Rows.{exactly, send_row, send_only, read_row, read_only, row_found, row_none}
use Rattle.theorems.proofs.PairRows.{pair_row, pair_only}
use Rattle.theorems.proofs.DecodingRows.{soft_exactly, hard_exactly}
use Rattle.theorems.proofs.TransformRows.{transform_row, transform_only}
use Rattle.theorems.proofs.Transforming.{areas_even, areas_odd, run_even, run_odd, run_keeps, tails_stay}
use Rattle.theorems.proofs.Transforming.{question_again, part_spectrum, part_even, part_odd, transform_keeps}
use Rattle.theorems.proofs.Transforming.{transform_empty}
use Rattle.theorems.proofs.Formula.{label_order_iff, parts_message, path_used, word_formula, partner_formula}
use Rattle.theorems.proofs.PairChecks.{word_partner, partner_cancels, written_yes, self_not_pair, self_no}
use Rattle.theorems.proofs.PairChecks.{yes_iff_pair, yes_iff_cancel, no_iff_not_cancel, envelope_together}
use Rattle.theorems.proofs.Damage.{damage_two, damage_four}
use Rattle.theorems.proofs.RoundTrips.{read_back, hard_back, soft_back, sixteen}

-- an answer that tells what the rules say tells exactly what the rows say
as_told : {A : Type 0} (Row : Outcome A → Type 0) {told rules : Outcome A} → told ≡ rules →
    ((o : Outcome A) → (rules ≡ o) ↔ Row o) → (o : Outcome A) → (told ≡ o) ↔ Row o
as_told Row e is o = (λ p. (is o).0 (sym e ∙ p), λ r. e ∙ (is o).1 r)

send_exactly : (h m n g : ℕ) {told : Outcome (Unit {0})} → told ≡ send_refusal h m n g →
    (o : Outcome (Unit {0})) → (told ≡ o) ↔ SendRow h m n g o
send_exactly h m n g e =
    as_told (SendRow h m n g) e (exactly (SendRow h m n g) (send_refusal h m n g) (send_row h m n g)
    (λ o. send_only h m n g))

read_exactly : (h m : ℕ) (w : List ℕ) {told : Outcome ℕ} → told ≡ read_outcome h m w →
    (o : Outcome ℕ) → (told ≡ o) ↔ ReadRow h m w o
read_exactly h m w e =
    as_told (ReadRow h m w) e (exactly (ReadRow h m w) (read_outcome h m w) (read_row h m w) (λ o. read_only h m w))

demand1 : Demand1
demand1 = record {
  encode_tells = λ h m g d w r s. send_exactly h m (length d) g s.told;
  partner_tells = λ h m g d w r s. send_exactly h m (length d) g s.told;
  check_tells = λ h m a b r e.
      as_told (PairRow h m a b) e (exactly (PairRow h m a b) (pair_outcome h m a b) (pair_row h m a b)
      (λ o. pair_only h m a b));
  read_tells = λ h m w r e. read_exactly h m w e;
  soft_tells = λ h m ys r hears. soft_exactly h m ys (heard_told r) hears;
  hard_tells = λ h m w r matches. hard_exactly h m w (matched_told r) matches;
  question_tells = λ m a b r e. as_told (TransformRow m a b) e
      (exactly (TransformRow m a b) (transform_refusal m a (length b)) (transform_row m a b)
      (λ o. transform_only m a b));
  transform_empty = transform_empty;
  soft_answers = λ h m ys r e hears. hears_found h m ys r hears e;
  hard_answers = λ h m w r e matches. matches_found h m w r matches e;
  encode_keeps = λ h m g d w r s. sent_keeps s;
  partner_keeps = λ h m g d w r s. sent_keeps s;
  run_keeps = run_keeps;
  transform_keeps = transform_keeps;
  encode_one = λ h m g d r s w v. sent_unique h m g (word_of h m g) d r s w v;
  partner_one = λ h m g d r s w v. sent_unique h m g (partner_of h m g) d r s w v;
  check_one = paired_unique;
  read_one = reading_unique;
  soft_one = hears_unique;
  hard_one = matches_unique;
  question_one = λ m a b. judged_unique (transform_refusal m a (length b));
  run_one = λ m a b n k a' b' c' d'. ran_unique;
  part_one = λ m x y r s. handed_unique;
  areas_one = at_last_unique;
}

demand2 : Demand2
demand2 = record {
  path_listed = path_iff;
  paths_order = paths_increasing;
  before_asymm = λ p q. before_asymm;
  before_trans = λ p q s. before_trans;
  paths_number = λ m two. omega (arith, length_paths m two);
  paths_used = λ m e. let t = subst T (sym e) tt in (paths_in_use_le m t, paths_in_use_most m t);
  label_order = label_order_iff;
  message_bits_lem = message_bits_lem;
  message_parts = λ h m g shape taken.
      (path_used h m g shape taken, (λ k. coefficient_lt h m (label_of h m g) k), constant_lt h (label_of h m g));
  parts_message = λ h m n c c0 shape. parts_message h m n c c0;
  word_formula = λ h m g i shape taken. word_formula h m g shape taken i;
  partner_formula = partner_formula;
  encode_writes = λ h m g. sent_writes h m g (word_of h m g);
  partner_writes = λ h m g. sent_writes h m g (partner_of h m g);
  partner_not_word = λ h m g shape.
      let r = in_shape_range h m shape in
      partner_of_not_word_of h m g r.h_least (range_in_m h m r);
  read_finds = λ h m w g r e. (
    λ p. row_found h m w ((read_exactly h m w e (gives g)).0 p),
    λ p. (read_exactly h m w e (gives g)).1 (read_gives g p.0 p.1 p.2),
  );
  read_none = λ h m w r e. (
    λ p. row_none h m w ((read_exactly h m w e (refuses 5 [])).0 p),
    λ p. (read_exactly h m w e (refuses 5 [])).1 (read_5 p.0 p.1),
  );
  read_unused = λ h m l r shape unused listed e.
      let t = in_shape_range h m shape in
      (read_exactly h m (list_below (carriers m) (word_at h m l)) e (refuses 5 [])).1
      (read_5 (labelled_symbols h m l shape)
      (λ g b. unused_not_word_of m (range_in_m h m t) h l g t.h_least unused listed b));
  word_partner = word_partner;
  written_yes = written_yes;
  counts_iff_zero = λ h n a b u one. ((cancel_iff_counts h n a b u one).1, (cancel_iff_counts h n a b u one).0);
  partner_cancels = partner_cancels;
  yes_iff_pair = λ h m w v r a b e. yes_iff_pair h m w v r a b e;
  yes_iff_cancel = λ h m w v r a b e. yes_iff_cancel h m w v r a b e;
  no_iff_not_cancel = λ h m w v r a b e. no_iff_not_cancel h m w v r a b e;
  self_not_pair = self_not_pair;
  self_no = self_no;
  soft_greatest = λ h m ys a hears. hears.right.best;
  hard_nearest = λ h m w a matches. matches.right.best;
  soft_tied = λ h m ys a hears. hears.right.tie;
  hard_tied = λ h m w a matches. matches.right.tie;
}

demand3 : Demand3
demand3 = record {
  places_apart = λ h m g k shape p q n.
      let r = in_shape_range h m shape in
      hamming_apart h m (label_of h m g) (label_of h m k) r.h_least (range_in_m h m r) (label_of_lt h m g p)
      (label_of_lt h m k q) (λ e. n (label_of_inj h m g k e));
  lee_apart = λ h m g k shape two p q n.
      lee_apart h m (label_of h m g) (label_of h m k) two (range_in_m h m (in_shape_range h m shape))
      (label_of_lt h m g p)
      (label_of_lt h m k q) (λ e. n (label_of_inj h m g k e));
  damage_two = damage_two;
  damage_four = damage_four;
}

transform : Transforms
transform = record {
  part_spectrum = part_spectrum;
  part_even = part_even;
  part_odd = part_odd;
  stages_spectrum = stages_spectrum;
  areas_even = areas_even;
  areas_odd = areas_odd;
  run_even = run_even;
  run_odd = run_odd;
  tails_stay = tails_stay;
  question_again = λ m a b n a' b' r k v ran. question_again m a b n a' b' ran r k v;
}

further : Further
unfolding distance
further = record {
  read_back = read_back;
  hard_back = hard_back;
  soft_back = λ h m g a d w r two some fits. soft_back h m g a d w r two some;
  clean_fits = λ h m a w small j. le_trans (clean_size h m a w j) small;
  correlation_size = λ h m ys l. correlation_size h m ys l 32768;
  unit_two = λ m g w s. unit_two m w (label_of 1 m g) s.below;
  unit_four = λ m g w s. unit_four m w (label_of 2 m g) s.below;
  sixteen = sixteen;
  envelope_together = envelope_together;
}

pub theorems : Theorems
theorems = record {
  demand1 = demand1;
  demand2 = demand2;
  demand3 = demand3;
  transform = transform;
  further = further;
}
