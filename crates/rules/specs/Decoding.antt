-- What soft and hard decoding answer: 01 "What the receiver hears", "When the receiver says no".
-- Defines:  Answer X                  what is answered: the message number, its value, tied
--           SoftAnswer, HardAnswer    with a correlation as value, with a distance
--           BestAnswer h m Stands value a    a is right for these values of the labels: its message is one of the
--                                     shape's, and that message's label is the best, has a's value, and is tied as a
--                                     says
--           Loud h m ys a             a is right for soft values ys: the best is the greatest correlation
--           Near h m w a              a is right for symbols w: the best is the least distance
--           SoftOutcome h m ys o      o is what soft decoding of ys answers
--           HardOutcome h m w o       o is what hard decoding of w answers
-- That the message is one follows from its label for the plain bits of today; it is said so that other bits leave it
-- true.
-- Laws: proofs/DecodingLaws.antt (only one outcome is answered).  Assumes nothing: these are definitions.
use Rattle.std.specs.Prelude.{ℕ, ◌<◌, Bool, List, ℤ}
use Rattle.rules.specs.Shape.{messages}
use Rattle.rules.specs.Label.{labels, label_of}
use Rattle.rules.specs.Distance.{distance_to}
use Rattle.rules.specs.Soft.{correlation}
use Rattle.rules.specs.Best.{AtMost, AtLeast, Best, Tied}
use Rattle.rules.specs.Outcome.{Outcome, OutcomeOf}
use Rattle.rules.specs.Refusal.{soft_refusal, hard_refusal}

pub record Answer (X : Type 0) : Type 0 where
  pub message : ℕ
  pub value : X
  pub tied : Bool

abbrev pub SoftAnswer : Type 0
SoftAnswer = Answer ℤ

abbrev pub HardAnswer : Type 0
HardAnswer = Answer ℕ

pub record BestAnswer {X : Type 0} (h m : ℕ) (Stands : X → X → Type 0) (value : ℕ → X) (a : Answer X) : Type 0 where
  pub inside : a.message < messages h m
  pub best : Best (labels h m) Stands value (label_of h m a.message) a.value
  pub tie : Tied (labels h m) value (label_of h m a.message) a.value a.tied

abbrev pub Loud : ℕ → ℕ → List ℤ → SoftAnswer → Type 0
Loud h m ys a = BestAnswer h m AtMost (correlation h m ys) a

abbrev pub Near : ℕ → ℕ → List ℕ → HardAnswer → Type 0
Near h m w a = BestAnswer h m AtLeast (distance_to h m w) a

abbrev pub SoftOutcome : ℕ → ℕ → List ℤ → Outcome SoftAnswer → Type 0
SoftOutcome h m ys o = OutcomeOf (soft_refusal h m ys) (Loud h m ys) o

abbrev pub HardOutcome : ℕ → ℕ → List ℕ → Outcome HardAnswer → Type 0
HardOutcome h m w o = OutcomeOf (hard_refusal h m w) (Near h m w) o
