-- The call of `front` by `look`, without the machine: the part, which can only be read, is passed on as it is, for the
-- lifetime that it has. Of the callee nothing is known but its contract.
--     Front            its contract.           given_front       what it binds outside, for the part r
--     to_front         the part r, with its token  ⊢ what `front` asks
--     Fronted xs v z   `front` has returned v, which is the number z, of an area that holds xs
--     front_over       what `front` leaves  ⊢ ⇛ ∃ z. the token, and Fronted holds of z
-- The part is made in Parting.antt; the call with both areas is in Asking.antt.  Assumes `Logic`.
use mathlib.Core.Path.{◌≡◌}
use mathlib.Core.List.{List, [], ◌∷◌}
use lib.IntN.{ℤ}
use lib.ListN.{length}
use seplogic.Ra.Ura.{Ura}
use mir.Val.{Val}
use base.Logic.{SProp, ent, ex, guard, id⊢}
use base.Fml.{Lft, Share, ftrue, flft}
use prog.Memory.{Memory}
use prog.Routine.{Routine}
use types.Logic.{Logic}
use contract.Monad.{Fun, fact}
use types.Kit.{‵, raw, ◌⊛◌, some, later, ◌$◌, ◌∵◌, !, qed, move, keep, use1, split, join, pick, check, drop}
use types.Kit.{fjoin, show, await, updating, now as at_once, done}
use denote.Laws.{Is, shows}
use denote.Builtin.{i32}
use denote.Ref.{Bor}
use denote.Slice.{shr_slice_vals}
use denote.Steps.{facts, heard, nothing}
use denote.Triple.Spec.{triple_of}
use denote.Triple.Statement.{Contract}
use denote.Triple.Clauses.{ensured, lasts}
use Rattle.range.specs.Signed.{entry}
use Rattle.caller.proofs.Sharing.{Shr, HadShr}
use Rattle.caller.specs.contracts.front as front

abbrev pub Fronted : List ℤ → Val → ℤ → Type 0
Fronted xs v z = Is i32 z (v ∷ []) × (z ≡ entry xs 0)

module _ {M : Type 1} {𝓤 : Ura M} (𝓛 : Logic 𝓤) (mem : Memory → SProp 𝓤) (go : Routine → Fun 𝓤) where
  open 𝓛 use {H, A}

  abbrev pub Front : Contract 𝓤
  Front = triple_of 𝓛 front.signature (front.spec 𝓛 mem go)

  module _ (κ : Lft) (q : Share) (r : Bor (List ℤ)) where
    abbrev pub given_front : Front.Ghost
    given_front = (((κ, tt), (q, tt), tt, (r, tt), (shr_slice_vals r, tt)), tt)

    pub to_front : ent 𝓤 (HadShr 𝓛 i32 κ q r) (Front.pre given_front)
    to_front =
        qed 𝓛 (‵ (Shr κ i32 r (length r.now)) ∷ ‵ (flft κ q) ∷ []) ∵
        nothing ! $ move ! (1 ∷ 0 ∷ []) $ fjoin ! $ nothing ! $ move ! (2 ∷ 0 ∷ []) $ join ! $ join ! $
        nothing ! $ move ! (1 ∷ 0 ∷ []) $ done !

    abbrev Back : Val → ℤ → SProp 𝓤
    Back v z = guard 𝓤 (Fronted r.now v z) (A.lft κ q)

    pub front_over : (v : Val) → ent 𝓤 (Front.post given_front v) (H.⇛ (ex 𝓤 (Back v)))
    front_over v =
        qed 𝓛 (raw (Front.post given_front v) ∷ []) ∵ updating ! $
        use1 𝓛 (later (some (λ (z : ℤ). ((‵ (flft κ q) ⊛ ‵ ftrue) ⊛ ‵ (i32.own_val z (v ∷ [])))
        ⊛ raw (ensured 𝓛 front.ended (front.clauses 𝓛 mem go) (κ, tt) (r, tt) tt z))))
        (id⊢ 𝓤 _) $ await ! tt $ pick ! (λ z. split ! $ move ! (1 ∷ []) $
        use1 𝓛 (some (λ (ws : Unit {0} × Unit {0}). ‵ (lasts front.ended (κ, tt) (r, tt) ws)
        ⊛ raw (fact 𝓤 (z ≡ entry r.now 0)))) (id⊢ 𝓤 _) $ pick ! (λ ws. split ! $ drop ! $
        heard ! (z ≡ entry r.now 0) (λ e. split ! $ move ! (1 ∷ []) $
        facts ! i32 (Is i32) (shows 𝓛 i32) z (v ∷ []) (λ is. split ! $ keep ! (0 ∷ []) $
        at_once ! $ show ! (Back v) z $ check ! (is, e) $ done !))))
