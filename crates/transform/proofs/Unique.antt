-- Only one outcome keeps each promise. In order: one outcome of `run`; of `transform` one part, in contents and place,
-- and one ending of both areas, each of them whole. The last is said in the logic, and assumes `Logic`: no two endings
-- can be promised of the same two areas. The others assume nothing.
use Prim.Native.Nat.{ℕ}
use mathlib.Core.Path.{◌≡◌, sym, ◌∙◌}
use mathlib.Core.List.{List}
use lib.IntN.{ℤ}
use seplogic.Ra.Ura.{Ura}
use base.Logic.{SProp, ent, via, fst∗, snd∗}
use types.Logic.{Logic, sem}
use contract.Monad.{conj, conj_mono, fact, fact_mono, fact_use}
use denote.Builtin.{i32}
use denote.Ref.{Bor, MutBor}
use denote.Slice.{finally}
use denote.ExitLaws.{finally_one}
use Rattle.transform.specs.Transformed.{Ran, Handed, AtLastOf}

pub ran_unique : {m : ℕ} {a b : List ℤ} {n k : ℕ} {a' b' c' d' : List ℤ} → Ran m a b n a' b' → Ran m a b k c' d' →
    (n ≡ k) × (a' ≡ c') × (b' ≡ d')
ran_unique p q = (p.count ∙ sym q.count, p.first ∙ sym q.first, p.second ∙ sym q.second)

pub handed_unique : {m : ℕ} {x y : MutBor (List ℤ)} {r s : Bor (List ℤ)} → Handed m x y r → Handed m x y s →
    (r.now ≡ s.now) × (r.ref_ptr ≡ s.ref_ptr)
handed_unique p q = (p.contents ∙ sym q.contents, p.place ∙ sym q.place)

module _ {M : Type 1} {𝓤 : Ura M} (𝓛 : Logic 𝓤) where
  -- at last the area of that name holds the list a
  abbrev Last : MutBor (List ℤ) → List ℤ → SProp 𝓤
  Last x a = sem 𝓛 (finally i32 x.ghost_name a)

  pub at_last_unique : (x y : MutBor (List ℤ)) (a b c d : List ℤ) →
      ent 𝓤 (conj 𝓤 (sem 𝓛 (AtLastOf x y a b)) (sem 𝓛 (AtLastOf x y c d))) (fact 𝓤 ((a ≡ c) × (b ≡ d)))
  at_last_unique x y a b c d =
      fact_use 𝓤 (a ≡ c) (via 𝓤 (conj 𝓤 (Last x a) (Last x c))
      (conj_mono 𝓤 (fst∗ 𝓤 (Last x a) (Last y b)) (fst∗ 𝓤 (Last x c) (Last y d)))
      (finally_one 𝓛 i32 x.ghost_name a c)) (λ p.
      via 𝓤 (conj 𝓤 (Last y b) (Last y d))
      (conj_mono 𝓤 (snd∗ 𝓤 (Last x a) (Last y b)) (snd∗ 𝓤 (Last x c) (Last y d)))
      (via 𝓤 (fact 𝓤 (b ≡ d)) (finally_one 𝓛 i32 y.ghost_name b d)
      (fact_mono 𝓤 (b ≡ d) ((a ≡ c) × (b ≡ d)) (λ r. (p, r)))))
