-- Whole numbers: sums below n, negation by a test, and the entries of a list.
-- Defines:  sumℤ n f         f 0 + .. + f (n - 1)
--           negated_if b z   z, negated where b is true
--           entry a i        entry i of a list, and 0 behind its end
-- Laws: proofs/SumsSigned.antt.  Assumes nothing: these are definitions.
use Rattle.std.specs.Prelude.{ℕ, zero, suc, Bool, true, false, List, ℤ, pos, neg_ℤ, ◌+ℤ◌, get_or}

unfoldable pub sumℤ : ℕ → (ℕ → ℤ) → ℤ
sumℤ zero f = pos 0
sumℤ (suc n) f = f zero +ℤ sumℤ n (λ i. f (suc i))

abbrev pub negated_if : Bool → ℤ → ℤ
negated_if true z = neg_ℤ z
negated_if false z = z

abbrev pub entry : List ℤ → ℕ → ℤ
entry a i = get_or a i (pos 0)
