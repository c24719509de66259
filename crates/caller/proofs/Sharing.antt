-- A `&κ mut [T]` that is only read is lent as a `&κ' [T]`, and comes back as it was once κ' is over. The loan is the
-- kit's (borrow.Rule.Slice.Reshare), which leaves the machine value out.
--     Had x            what the slice x owns, with a share of its lifetime's token
--     Shr x n          what the shared slice x owns, where its machine value has the count n
--     HadShr x         what the shared slice x owns, with a share of its lifetime's token
--     KeptS x          what the lender of x keeps meanwhile
--     shares           Had x ∗ [κ']_p  ⊢ ⇛ (Shr x at κ' ∗ KeptS x ∗ [κ']_p), where κ' is under way, as its token shows
--     shared_back      [†κ'] ∗ KeptS x  ⊢ ⇛ Had x
-- Assumes `Logic`.
use Prim.Native.Nat.{ℕ}
use mathlib.Core.Path.{◌≡◌, sym, ap}
use mathlib.Core.List.{List, [], ◌∷◌}
use lib.ListN.{length}
use seplogic.Ra.Ura.{Ura}
use mir.Syntax.{erased}
use mir.Val.{Val}
use base.Logic.{SProp, ent, sep}
use base.Fml.{Lft, Share, Fml, flft, fdead}
use types.Logic.{Logic, sem}
use types.Kit.{Item, mean, use3, ‵, ◌⊛◌, later, ◌$◌, ◌∵◌, !, qed, use1, use2, split, fsplit, fjoin, feq_i, await}
use types.Kit.{updating, now as at_once, done}
use denote.RattleType.{RattleType, RowLaws}
use denote.Ref.{Bor, MutBor, as_bor}
use denote.Shares.{Shares}
use denote.Slice.{slice_val, shr_slice_vals, ShrSlice}
use borrow.Table.Owned.{MutSlice as Bare, ShrSlice as BareShr}
use borrow.Rule.Array.Share.{share_cells}
use borrow.Rule.Slice.Reshare.{kept_s, sl_reshare_as, sl_reshare_back}
use Rattle.transform.proofs.Again.{Own, bared, clad}

abbrev pub Shr : Lft → (R : RattleType) → Bor (List R.Denot) → ℕ → Fml
Shr κ R x n = (ShrSlice erased κ R).own_val x (slice_val x.ref_ptr n ∷ [])

module _ {M : Type 1} {𝓤 : Ura M} (𝓛 : Logic 𝓤) (R : RattleType) (κ : Lft) (q : Share) where
  open 𝓛 use {A}

  abbrev pub Had : MutBor (List R.Denot) → SProp 𝓤
  Had x = sep 𝓤 (sem 𝓛 (Own κ R x)) (A.lft κ q)

  abbrev pub HadShr : Bor (List R.Denot) → SProp 𝓤
  HadShr x = sep 𝓤 (sem 𝓛 (Shr κ R x (length x.now))) (A.lft κ q)

module _ {M : Type 1} {𝓤 : Ura M} (𝓛 : Logic 𝓤) (R : RattleType) (κ κ' : Lft)
    (q : Share) (x : MutBor (List R.Denot)) where
  open 𝓛 use {H, A}

  abbrev pub KeptS : Item 𝓤
  KeptS = kept_s 𝓛 R κ q κ' x.ghost_name x.now x.ref_ptr.0 x.ref_ptr.1

  pub shares : RowLaws R → Shares 𝓛 R κ' → (p : Share) (n : ℕ) → length x.now ≡ n →
      ent 𝓤 (sep 𝓤 (Had 𝓛 R κ q x) (A.lft κ' p))
      (H.⇛ (sep 𝓤 (sem 𝓛 (Shr κ' R (as_bor x) n)) (sep 𝓤 (mean 𝓛 KeptS) (A.lft κ' p))))
  shares laws can p n e =
      qed 𝓛 ((‵ (Own κ R x) ⊛ ‵ (flft κ q)) ∷ ‵ (flft κ' p) ∷ []) ∵ updating ! $ split ! $
      use1 𝓛 (‵ ((Bare erased κ R).own_val x)) (bared 𝓛 R κ x) $
      use3 𝓛 (later (‵ ((BareShr erased κ' R).own_val (as_bor x)) ⊛ (KeptS ⊛ ‵ (flft κ' p))))
      (sl_reshare_as 𝓛 R κ q κ' x.ref_ptr.0 x.ref_ptr.1 x.ghost_name (A.lft κ' p)
      (λ ys room. share_cells 𝓛 R κ' x.ref_ptr.0 laws κ' can ((κ', p) ∷ []) (λ y i. i) (λ y i. i) ys x.ref_ptr.1 room)
      x.now) $ await ! tt $ split ! $
      fsplit ! $ feq_i ! (List Val) (slice_val x.ref_ptr n ∷ []) (shr_slice_vals (as_bor x))
      (ap (λ (j : ℕ). slice_val x.ref_ptr j ∷ []) (sym e)) $ fjoin ! $ fjoin ! $ at_once ! $ done !

  pub shared_back : ent 𝓤 (sep 𝓤 (A.dead κ') (mean 𝓛 KeptS)) (H.⇛ (Had 𝓛 R κ q x))
  shared_back =
      qed 𝓛 (‵ (fdead κ') ∷ KeptS ∷ []) ∵ updating ! $
      use2 𝓛 (later (‵ ((Bare erased κ R).own_val x) ⊛ ‵ (flft κ q)))
      (sl_reshare_back 𝓛 R κ q κ' x.ref_ptr.0 x.ref_ptr.1 x.ghost_name x.now) $ await ! tt $ split ! $
      use1 𝓛 (‵ (Own κ R x)) (clad 𝓛 R κ x) $ at_once ! $ done !
