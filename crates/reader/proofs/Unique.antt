-- Only one answer of word reading keeps its promise. In order: what an answer tells determines it; one answer.
-- Assumes nothing.
use Prim.Native.Nat.{ℕ}
use mathlib.Core.Path.{◌≡◌, refl, sym, ◌∙◌}
use mathlib.Core.List.{List}
use Rattle.rules.specs.Refusal.{read_outcome}
use Rattle.kinds.proofs.RefusalLaws.{told_inj}
use Rattle.reader.specs.Reading.{Reading, reading_told}

reading_told_inj : (r s : Reading) → reading_told r ≡ reading_told s → r ≡ s
reading_told_inj = told_inj (λ g. g.0) (λ n. record { 0 = n }) (λ g. refl)

-- two answers that both keep the promise are one
pub reading_unique : (h m : ℕ) (w : List ℕ) (r s : Reading) →
    reading_told r ≡ read_outcome h m w → reading_told s ≡ read_outcome h m w → r ≡ s
reading_unique h m w r s p q = reading_told_inj r s (p ∙ sym q)
