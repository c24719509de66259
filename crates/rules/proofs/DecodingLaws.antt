-- Laws of answers: rules' Decoding. In order: only one answer is right; an answer better than every other; an answer
-- under another measure; only one outcome is answered by soft decoding, and by hard decoding.
-- Not here: laws of Best and Tied (BestLaws), of outcomes (OutcomeLaws).  Assumes nothing.
use Prim.Native.Nat.{ℕ, ◌<◌}
use native.Mathlib.Omega.{arith}
use mathlib.Core.Path.{◌≡◌}
use mathlib.Core.Bool.{false}
use mathlib.Core.List.{List}
use mathlib.Core.Logic.{◌≢◌, ◌↔◌}
use lib.IntN.{ℤ}
use Rattle.rules.specs.Shape.{messages}
use Rattle.rules.specs.Label.{labels, label_of}
use Rattle.rules.specs.Distance.{distance_to}
use Rattle.rules.specs.Soft.{correlation}
use Rattle.rules.specs.Best.{AtMost, AtLeast}
use Rattle.rules.specs.Outcome.{Outcome}
use Rattle.rules.specs.Refusal.{soft_refusal, hard_refusal}
use Rattle.rules.specs.Decoding.{Answer, SoftAnswer, HardAnswer, BestAnswer, Loud, Near, SoftOutcome, HardOutcome}
use Rattle.rules.proofs.Messages.{label_of_inj, label_of_lt}
use Rattle.rules.proofs.BestLaws.{best_unique, best_alone, best_map, tied_unique, tied_of_alone, tied_map}
use Rattle.rules.proofs.BestLaws.{at_most_antisymm}
use Rattle.rules.proofs.OutcomeLaws.{outcome_of_unique}

module _ {X : Type 0} (h m : ℕ) (Stands : X → X → Type 0) (value : ℕ → X) where
  -- only one answer is right, where two values that stand so to each other are equal
  pub best_answer_unique : ((u v : X) → Stands u v → Stands v u → u ≡ v) → (a b : Answer X) →
      BestAnswer h m Stands value a → BestAnswer h m Stands value b → a ≡ b
  best_answer_unique anti a b p q =
      let e = best_unique (labels h m) Stands value anti _ _ a.value b.value p.best q.best in
      let t = tied_unique (labels h m) value _ b.value a.tied b.tied (rw (e.0, e.1) at p.tie) q.tie in
      let g = label_of_inj h m a.message b.message e.0 in
      λ i. record { message = g i; value = e.1 i; tied = t i }

  -- the message of a label that is better than every other is right, and not tied
  pub best_answer_alone : (g : ℕ) → g < messages h m → let l = label_of h m g in Stands (value l) (value l) →
      ((k : ℕ) → k < labels h m → k ≢ l → Stands (value k) (value l) × (value k ≢ value l)) →
      BestAnswer h m Stands value (record { message = g; value = value l; tied = false })
  best_answer_alone g inside self others = record {
    inside = inside;
    best = best_alone (labels h m) Stands value (label_of h m g) (label_of_lt h m g inside) self others;
    tie = tied_of_alone (labels h m) value (label_of h m g) (value (label_of h m g)) (λ k b ne. (others k b ne).1);
  }

  -- an answer stays right under another measure that keeps how values stand to its own, and which are equal to it
  pub best_answer_map : {Y : Type 0} (Others : Y → Y → Type 0) (other : ℕ → Y) (a : Answer X) (w : Y) →
      BestAnswer h m Stands value a → ((k : ℕ) → Stands (value k) a.value → Others (other k) w) →
      ((k : ℕ) → (other k ≡ w) ↔ (value k ≡ a.value)) →
      BestAnswer h m Others other (record { message = a.message; value = w; tied = a.tied })
  best_answer_map Others other a w p order same = let l = label_of h m a.message in record {
    inside = p.inside;
    best = best_map (labels h m) Stands value Others other l a.value w p.best order same;
    tie = tied_map (labels h m) value l a.value other w a.tied same p.tie;
  }

pub soft_outcome_unique : (h m : ℕ) (ys : List ℤ) (o u : Outcome SoftAnswer) → SoftOutcome h m ys o →
    SoftOutcome h m ys u → o ≡ u
soft_outcome_unique h m ys =
    outcome_of_unique (soft_refusal h m ys) (Loud h m ys)
    (best_answer_unique h m AtMost (correlation h m ys) at_most_antisymm)

pub hard_outcome_unique : (h m : ℕ) (w : List ℕ) (o u : Outcome HardAnswer) → HardOutcome h m w o →
    HardOutcome h m w u → o ≡ u
hard_outcome_unique h m w =
    outcome_of_unique (hard_refusal h m w) (Near h m w)
    (best_answer_unique h m AtLeast (distance_to h m w) (λ x y s t. omega arith))
