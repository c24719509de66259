-- The two edges of `transform`, without the machine: what its contract gives on entry is opened, and what it asks on
-- exit is made of both areas as `run` leaves them.
--     stayed           each parameter as the walk keeps it: m is a number, and both areas are spent
--     Entered          what is had on entry.         Post v      what is asked where v is returned
--     opened           Entered  ⊢ both areas, as they stand, with their token
--     out t n          what is returned: the front n of the first area where t is true, else of the second
--     exits            both areas, where `run`'s promise holds of them  ⊢ Post, of the part in the area that t says
-- What lies between: the call of `run`, in Calling.antt, and the walk, in transform/Proof.antt. The part: Handing.antt.
-- Assumes `Logic`.
use Prim.Native.Nat.{ℕ, ◌<◌, ◌^◌}
use mathlib.Core.Path.{◌≡◌, refl, sym, ap}
use mathlib.Core.Bool.{Bool, cond}
use mathlib.Core.List.{List, [], ◌∷◌}
use lib.IntN.{ℤ}
use seplogic.Ra.Ura.{Ura}
use mir.Syntax.{named, w32}
use mir.Val.{Val}
use base.Logic.{SProp, ent, sep, via, assoc∗}
use base.Fml.{Lft, Share, Fml, ftrue, flft}
use prog.Memory.{Memory}
use prog.Routine.{Routine}
use types.Logic.{Logic, sem}
use contract.Monad.{Fun, fact}
use types.Kit.{‵, raw, ◌⊛◌, later, ◌$◌, ◌∵◌, !, qed, by, move, keep, use1, rewrite, split, split3}
use types.Kit.{join, drop, fsplit, fjoin, suffices, await, updating, done}
use denote.RattleType.{owns}
use denote.Laws.{Is}
use denote.Plain.{uint_Makes}
use denote.Builtin.{u32, i32}
use denote.Ref.{MutBor}
use denote.Slice.{slice_val, MutSlice}
use denote.Steps.{owned, nothing}
use denote.Exit.{yes, no}
use denote.Signature.{plain, mut_slice_of}
use denote.Triple.Entry.{on_entry}
use denote.Triple.Walked.{says, Stays, stay_none, stay_dropped, on_exit, walk_of, ends_at}
use Rattle.rules.specs.Areas.{part_in_first}
use Rattle.transform.specs.Transformed.{Ran, Handed, AtLastOf, AtLast}
use Rattle.transform.proofs.Calling.{vals, Both}
use Rattle.transform.proofs.Handing.{part, Part, hands, left_promised}
use Rattle.transform.specs.contracts.transform as transform

abbrev pub stayed : Stays (transform.ended).signature.params (transform.ended).kept
stayed = (
  stay_none (λ _. u32) yes,
  (
    stay_dropped (mut_slice_of (0 ∷ []) tt (plain (λ _. i32))) no,
    (stay_dropped (mut_slice_of (0 ∷ []) tt (plain (λ _. i32))) no, tt),
  ),
)

-- the part as the machine has it
abbrev pub out : MutBor (List ℤ) → MutBor (List ℤ) → Bool → ℕ → Val
out x y t n = slice_val (cond t x.ref_ptr y.ref_ptr) n

module _ {M : Type 1} {𝓤 : Ura M} (𝓛 : Logic 𝓤) (κ : Lft) (q : Share) (m : ℕ) (x y : MutBor (List ℤ)) where
  open 𝓛 use {A}

  abbrev pub Entered : SProp 𝓤
  Entered = on_entry 𝓛 transform.signature (κ, tt) (q, tt) (m, (x, (y, tt))) (vals m x y)

  pub opened : ent 𝓤 Entered (Both 𝓛 κ q x y x.now y.now)
  opened =
      qed 𝓛 ((‵ (flft κ q) ⊛ ‵ ftrue) ∷
      ‵ (owns (u32 ∷ MutSlice (named 0) κ i32 ∷ MutSlice (named 0) κ i32 ∷ []) (m, (x, (y, tt))) (vals m x y)) ∷ []) ∵
      split ! $ move ! (2 ∷ []) $ fsplit ! $ drop ! $ fsplit ! $ move ! (1 ∷ []) $ fsplit ! $ keep ! (2 ∷ 0 ∷ 3 ∷ []) $
      done !

  module _ (mem : Memory → SProp 𝓤) (go : Routine → Fun 𝓤) where
    abbrev bound : (walk_of 𝓛 transform.ended stayed (transform.clauses 𝓛 mem go)).Ghost
    bound = (((κ, tt), (q, tt), tt, (m, (x, (y, tt))), vals m x y), tt)

    abbrev pub Post : Val → SProp 𝓤
    Post = (walk_of 𝓛 transform.ended stayed (transform.clauses 𝓛 mem go)).post bound

    module _ (m_fits : m < 2 ^ 32) (t : Bool) (e : part_in_first m x.now y.now ≡ t) where
      abbrev OnExit : ℕ → SProp 𝓤
      OnExit n =
          on_exit 𝓛 transform.ended stayed (κ, tt) (q, tt) (vals m x y) (out x y t n) (part m x y t)
          (m, (x, (y, tt))) (tt, (tt, (tt, tt)))

      handed : (n : ℕ) → ent 𝓤
          (sep 𝓤 (sem 𝓛 (Part m x y t κ n)) (sep 𝓤 (A.lft κ q) (sem 𝓛 (AtLast m x y)))) (Post (out x y t n))
      handed n =
          qed 𝓛 (‵ (Part m x y t κ n) ∷ ‵ (flft κ q) ∷ ‵ (AtLast m x y) ∷ []) ∵
          suffices ! (sep 𝓤 (sep 𝓤 (OnExit n) (sem 𝓛 (AtLast m x y))) (fact 𝓤 (Handed m x y (part m x y t))))
          (via 𝓤 _ (assoc∗ 𝓤 (OnExit n) (sem 𝓛 (AtLast m x y)) (fact 𝓤 (Handed m x y (part m x y t))))
          (ends_at 𝓛 transform.ended stayed (transform.clauses 𝓛 mem go) bound (out x y t n) (part m x y t)
          (tt, (tt, (tt, tt))) (tt, (tt, (tt, tt))))) $
          says ! (record { contents = refl; place = ap (λ (s : Bool). cond s x.ref_ptr y.ref_ptr) (sym e) }) $
          nothing ! $ nothing ! $ fjoin ! $ nothing ! $ fjoin ! $
          owned ! u32 (Is u32) (uint_Makes 𝓛 w32) m _ (refl, m_fits) $ fjoin ! $ join ! $
          nothing ! $ move ! (2 ∷ 0 ∷ []) $ join ! $ join ! $ done !

      pub exits : (z : ℕ × List ℤ × List ℤ) → Ran m x.now y.now z.0 z.1 z.2 →
          ent 𝓤 (Both 𝓛 κ q x y z.1 z.2) (Post (out x y t z.0))
      exits z ran =
          qed 𝓛 (raw (Both 𝓛 κ q x y z.1 z.2) ∷ []) ∵ updating ! $
          use1 𝓛 (later (‵ (Part m x y t κ z.0) ⊛ ‵ (flft κ q) ⊛ ‵ (AtLastOf x y z.1 z.2)))
          (hands 𝓛 κ q m x y t e ran) $ await ! tt $ split3 ! $
          rewrite ! 2 (λ (F : Fml). ‵ F) (left_promised m x y ran) refl $ by ! (handed z.0)
