-- The two edges of `look`, without the machine: what its contract gives on entry is opened, and what it asks on exit is
-- made of what is had.
--     stayed           each parameter as the walk keeps it: m is a number, and both areas come back
--     Entered          what is had on entry.         Post v      what is asked where v is returned
--     opened           Entered  ⊢ both areas, each with its token
--     ends z k         what is returned
--     exits            both areas as `transform` leaves them, where Seen holds of them  ⊢ Post (ends z k)
-- What lies between: the calls, in Parting.antt, Reading.antt and Asking.antt, and the walk, in look/Proof.antt.
-- Assumes `Logic`.
use Prim.Native.Nat.{ℕ, ◌<◌, ◌^◌}
use mathlib.Core.Path.{refl}
use mathlib.Core.List.{List, [], ◌∷◌}
use lib.IntN.{ℤ}
use seplogic.Ra.Ura.{Ura}
use mir.Syntax.{named, w32}
use mir.Val.{Val, vint, vstruct, vcons, vnil, of_z}
use base.Logic.{SProp, ent}
use base.Fml.{Lft, Share, ftrue, flft}
use prog.Memory.{Memory}
use prog.Routine.{Routine}
use types.Logic.{Logic}
use contract.Monad.{Fun}
use types.Kit.{‵, ◌⊛◌, ◌$◌, ◌∵◌, !, qed, move, keep, rewrite, split, split3, join, drop, fsplit, fjoin, suffices}
use types.Kit.{done}
use denote.RattleType.{owns}
use denote.Laws.{Is}
use denote.Plain.{uint_Makes}
use denote.Builtin.{u32, i32}
use denote.Ref.{MutBor}
use denote.Slice.{slice_val, MutSlice}
use denote.Steps.{owned, nothing}
use denote.Struct.Laws as LL
use denote.Exit.{yes}
use denote.Signature.{plain}
use denote.Triple.Entry.{on_entry}
use denote.Triple.Walked.{says, Stays, stay_none, stay_slice, walk_of, ends_at}
use Rattle.transform.proofs.AreasAfter.{length_first_after, length_second_after}
use Rattle.transform.proofs.Again.{Own}
use Rattle.transform.proofs.Calling.{vals}
use Rattle.caller.specs.declared.Ends.{Ends}
use Rattle.caller.specs.Seen.{Seen}
use Rattle.caller.proofs.Parting.{left_first, left_second, Both}
use Rattle.caller.specs.contracts.Ends as T
use Rattle.caller.proofs.Ends.TheLaws as T'
use Rattle.caller.specs.contracts.look as look

abbrev pub stayed : Stays (look.ended).signature.params (look.ended).kept
stayed = (
  stay_none (λ _. u32) yes,
  (stay_slice (0 ∷ []) tt (plain (λ _. i32)), (stay_slice (1 ∷ []) tt (plain (λ _. i32)), tt)),
)

abbrev pub ends : ℤ → ℤ → Ends
ends z k = record { total = z; kept = k }

-- the same, as the machine has it
abbrev out : ℤ → ℤ → Val
out z k = vstruct (vcons (vint w32 (of_z w32 z)) (vcons (vint w32 (of_z w32 k)) vnil))

module _ {M : Type 1} {𝓤 : Ura M} (𝓛 : Logic 𝓤) (κ₀ κ₁ : Lft) (q₀ q₁ : Share) (m : ℕ)
    (x y : MutBor (List ℤ)) where
  abbrev pub Entered : SProp 𝓤
  Entered = on_entry 𝓛 look.signature (κ₀, (κ₁, tt)) (q₀, (q₁, tt)) (m, (x, (y, tt))) (vals m x y)

  pub opened : ent 𝓤 Entered (Both κ₀ κ₁ q₀ q₁ 𝓛 x y)
  opened =
      qed 𝓛 ((‵ (flft κ₀ q₀) ⊛ ‵ (flft κ₁ q₁) ⊛ ‵ ftrue) ∷
      ‵ (owns (u32 ∷ MutSlice (named 0) κ₀ i32 ∷ MutSlice (named 1) κ₁ i32 ∷ []) (m, (x, (y, tt))) (vals m x y)) ∷ []) ∵
      split3 ! $ move ! (3 ∷ []) $ fsplit ! $ drop ! $ fsplit ! $ move ! (1 ∷ []) $ fsplit ! $
      -- [y; true; x; the tokens of x and of y; true]
      move ! (2 ∷ 3 ∷ []) $ join ! $ move ! (1 ∷ 3 ∷ []) $ join ! $ keep ! (1 ∷ 0 ∷ []) $ done !

  module _ (mem : Memory → SProp 𝓤) (go : Routine → Fun 𝓤) where
    abbrev bound : (walk_of 𝓛 look.ended stayed (look.clauses 𝓛 mem go)).Ghost
    bound = (((κ₀, (κ₁, tt)), (q₀, (q₁, tt)), tt, (m, (x, (y, tt))), vals m x y), tt)

    abbrev pub Post : Val → SProp 𝓤
    Post = (walk_of 𝓛 look.ended stayed (look.clauses 𝓛 mem go)).post bound

    abbrev x' : MutBor (List ℤ)
    x' = left_first m x y

    abbrev y' : MutBor (List ℤ)
    y' = left_second m x y

    pub exits : m < 2 ^ 32 → (z k : ℤ) (v u : Val) → Is i32 z (v ∷ []) → Is i32 k (u ∷ []) →
        Seen m x.now y.now (ends z k) x'.now y'.now → ent 𝓤 (Both κ₀ κ₁ q₀ q₁ 𝓛 x' y') (Post (out z k))
    exits m_fits z k v u is_z is_k said =
        let lx = length_first_after m x.now y.now in
        let ly = length_second_after m x.now y.now in
        qed 𝓛 (((‵ (Own κ₀ i32 x') ⊛ ‵ (flft κ₀ q₀)) ⊛ (‵ (Own κ₁ i32 y') ⊛ ‵ (flft κ₁ q₁))) ∷ []) ∵
        suffices ! _ (ends_at 𝓛 look.ended stayed (look.clauses 𝓛 mem go) bound (out z k) (ends z k)
        (tt, (x'.now, (y'.now, tt))) (tt, (lx, (ly, tt)))) $ says ! said $ split ! $ split ! $ move ! (2 ∷ []) $
        split ! $
        -- [y and its token; x and its token]
        rewrite ! 0 (λ (n : ℕ). ‵ ((MutSlice (named 1) κ₁ i32).own_val y' (slice_val y.ref_ptr n ∷ []))) ly refl $
        rewrite ! 2 (λ (n : ℕ). ‵ ((MutSlice (named 0) κ₀ i32).own_val x' (slice_val x.ref_ptr n ∷ []))) lx refl $
        nothing ! $ move ! (1 ∷ 0 ∷ []) $ fjoin ! $ move ! (2 ∷ 0 ∷ []) $ fjoin ! $
        owned ! u32 (Is u32) (uint_Makes 𝓛 w32) m _ (refl, m_fits) $ fjoin ! $
        owned ! T.the_row (Is T.the_row) (LL.makes T.the_type T'.the_plain 𝓛) (ends z k) _
        (LL.owes T.the_type T'.the_laws (ends z k) ((refl, is_z.1), ((refl, is_k.1), tt))) $
        -- [the result; the parameters; the tokens of y and of x]
        nothing ! $ move ! (3 ∷ 0 ∷ []) $ join ! $ move ! (3 ∷ 0 ∷ []) $ join ! $ move ! (0 ∷ 2 ∷ 1 ∷ []) $ done !
