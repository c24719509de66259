-- Only one outcome of encode and partner keeps their promise. In order: what an answer tells determines it; one
-- outcome, answer and slice.  Assumes nothing.
use Prim.Native.Nat.{ℕ}
use mathlib.Core.Path.{◌≡◌, sym, ◌∙◌}
use mathlib.Core.List.{List}
use Rattle.kinds.proofs.RefusalLaws.{judged_told_inj}
use Rattle.encoder.specs.Sent.{Written, written_told, Sent}

-- an answer is read back from what it tells
pub written_told_inj : (r s : Written) → written_told r ≡ written_told s → r ≡ s
written_told_inj = judged_told_inj

-- only one outcome, answer and slice, satisfies the promise
pub sent_unique : (h m g : ℕ) (word before : List ℕ) (r s : Written) (after after' : List ℕ) →
    Sent h m g word before r after → Sent h m g word before s after' → (r ≡ s) × (after ≡ after')
sent_unique h m g word before r s after after' p q =
    (written_told_inj r s (p.told ∙ sym q.told), p.slice ∙ sym q.slice)
