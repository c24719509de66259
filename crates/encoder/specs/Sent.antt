-- What encode and partner promise: 01 "What a logger may send", "The partner and the pair check", "When the receiver
-- says no".
-- Defines:  Written, written_told r   the type of an answer; what it says, in 01's terms
--           Sent h m g word before r after  the promise: the answer, and the slice that held `before`
-- Laws: proofs/SentLaws.antt (only one outcome satisfies it).  Assumes nothing: these are definitions.
use Rattle.std.specs.Prelude.{ℕ, ◌≡◌, List, length}
use Rattle.rules.specs.Outcome.{Outcome, leaves}
use Rattle.rules.specs.Refusal.{send_refusal}
use Rattle.kinds.specs.Refusals.{Judged, judged_told}

abbrev pub Written : Type 0
Written = Judged

abbrev pub written_told : Written → Outcome (Unit {0})
written_told r = judged_told r

pub record Sent (h m g : ℕ) (word before : List ℕ) (r : Written) (after : List ℕ) : Type 0 where
  pub told : written_told r ≡ send_refusal h m (length before) g
  pub slice : after ≡ leaves (send_refusal h m (length before) g) before word
