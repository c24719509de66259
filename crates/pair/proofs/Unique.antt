-- Only one answer of the pair check keeps its promise. In order: what an answer tells determines it; one answer.
-- Assumes nothing.
use Prim.Native.Nat.{ℕ}
use mathlib.Core.Path.{◌≡◌, refl, sym, ◌∙◌}
use mathlib.Core.List.{List}
use Rattle.rules.specs.Refusal.{pair_outcome}
use Rattle.kinds.proofs.RefusalLaws.{told_inj}
use Rattle.pair.specs.Paired.{Paired, paired_told}

pub paired_told_inj : (r s : Paired) → paired_told r ≡ paired_told s → r ≡ s
paired_told_inj = told_inj (λ b. b) (λ b. b) (λ b. refl)

-- two answers that both keep the promise are one
pub paired_unique : (h m : ℕ) (a b : List ℕ) (r s : Paired) →
    paired_told r ≡ pair_outcome h m a b → paired_told s ≡ pair_outcome h m a b → r ≡ s
paired_unique h m a b r s p q = paired_told_inj r s (p ∙ sym q)
