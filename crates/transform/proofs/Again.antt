-- Two `&κ mut [T]` are lent again together, for the lifetime κ' of a call, and come back once it is over: so does a
-- function that hands both on to a callee and uses them afterwards. κ has one token, so each loan takes one half of it.
-- The loan of one slice is the kit's (borrow.Rule.Slice.Lend), which leaves the machine value out.
--     Own κ T x        what the slice x owns, at its own machine value
--     under x γ        x under the name γ
--     bared, clad      what x owns, without its machine value, and with it again
--     Kept_of x γ      what the holder of x keeps while it is lent under the name γ
--     lends            own x ∗ [κ]_q  ⊢ ⇛ ∃ γ. own x at κ' under γ ∗ Kept_of x γ
--     backs            [†κ'] ∗ Kept_of x γ ∗ finally γ xs  ⊢ ⇛ (own x at xs ∗ [κ]_q), and xs is as long as x was
--     Kept g           what the holder of x and y keeps while they are lent under the names g
--     Lent g           x and y at κ' under g ∗ Kept g
--     lends_both       own x ∗ own y ∗ [κ]_q  ⊢ ⇛ ∃ g. Lent g
--     both_back        [†κ'] ∗ Kept g ∗ finally g xs, ys  ⊢ ⇛ (own x at xs ∗ own y at ys ∗ [κ]_q)
-- Assumes `Logic`.
use mathlib.Core.Path.{◌≡◌, refl}
use mathlib.Core.List.{List, [], ◌∷◌}
use lib.ListN.{length}
use seplogic.Ra.Ura.{Ura}
use base.Fraction.{left, right}
use mir.Syntax.{erased}
use mir.Val.{Val}
use base.Logic.{ent, sep, ex, guard}
use base.Fml.{Lft, GName, Share, Fml, flft, fdead}
use types.Logic.{Logic, sem}
use types.Kit.{Item, mean, ‵, ◌⊛◌, some, given, later, ◌$◌, ◌∵◌, !, qed, move, use1, use2, use3, drop, split, join}
use types.Kit.{pick, learn}
use types.Kit.{check, fsplit, fjoin, feq_i, await, updating, now as at_once, show, done}
use denote.RattleType.{RattleType}
use denote.Ref.{MutBor, at_last}
use denote.Slice.{mut_slice_vals, MutSlice, finally}
use borrow.Table.Owned.{MutSlice as Bare}
use borrow.Rule.Slice.Lend.{kept_f, sl_relend, sl_relent_backˡ}

abbrev pub Own : Lft → (R : RattleType) → MutBor (List R.Denot) → Fml
Own κ R x = (MutSlice erased κ R).own_val x (mut_slice_vals x)

abbrev pub under : {X : Type 0} → MutBor X → GName → MutBor X
under x γ = record { ref_ptr = x.ref_ptr; ghost_name = γ; now = x.now }

module _ {M : Type 1} {𝓤 : Ura M} (𝓛 : Logic 𝓤) (R : RattleType) (κ κ' : Lft) where
  abbrev pub Kept_of : Share → MutBor (List R.Denot) → GName → Item 𝓤
  Kept_of q x γ = kept_f 𝓛 R κ q κ' x.ghost_name γ x.now x.ref_ptr.0 x.ref_ptr.1

  module _ (q : Share) (x y : MutBor (List R.Denot)) where
    abbrev pub Kept : GName × GName → Item 𝓤
    Kept g = Kept_of (left q) x g.0 ⊛ Kept_of (right q) y g.1

    abbrev pub Lent : GName × GName → Item 𝓤
    Lent g = ‵ (Own κ' R (under x g.0)) ⊛ (‵ (Own κ' R (under y g.1)) ⊛ Kept g)

module _ {M : Type 1} {𝓤 : Ura M} (𝓛 : Logic 𝓤) (R : RattleType) where
  -- without the machine value, and with it
  open 𝓛 use {H, A}

  module _ (κ : Lft) (x : MutBor (List R.Denot)) where
    pub bared : ent 𝓤 (sem 𝓛 (Own κ R x)) (sem 𝓛 ((Bare erased κ R).own_val x))
    bared = qed 𝓛 (‵ (Own κ R x) ∷ []) ∵ fsplit ! $ fsplit ! $ drop ! $ fjoin ! $ done !

    pub clad : ent 𝓤 (sem 𝓛 ((Bare erased κ R).own_val x)) (sem 𝓛 (Own κ R x))
    clad =
        qed 𝓛 (‵ ((Bare erased κ R).own_val x) ∷ []) ∵ fsplit ! $
        feq_i ! (List Val) (mut_slice_vals x) (mut_slice_vals x) refl $
        fjoin ! $ fjoin ! $ done !

  module _ (κ κ' : Lft) where
    pub lends : (s : Share) (x : MutBor (List R.Denot)) → ent 𝓤 (sep 𝓤 (sem 𝓛 (Own κ R x)) (A.lft κ s))
        (H.⇛ (ex 𝓤 (λ (γ : GName). sep 𝓤 (sem 𝓛 (Own κ' R (under x γ))) (mean 𝓛 (Kept_of 𝓛 R κ κ' s x γ)))))
    lends s x =
        qed 𝓛 (‵ (Own κ R x) ∷ ‵ (flft κ s) ∷ []) ∵ updating ! $ use1 𝓛 (‵ ((Bare erased κ R).own_val x)) (bared κ x) $
        use2 𝓛 (later (some (λ (γ : GName). ‵ ((Bare erased κ' R).own_val (under x γ)) ⊛ (Kept_of 𝓛 R κ κ' s x γ))))
        (sl_relend 𝓛 R κ s κ' x.ref_ptr.0 x.ref_ptr.1 x.ghost_name x.now) $ await ! tt $ pick ! (λ γ. split ! $
        use1 𝓛 (‵ (Own κ' R (under x γ))) (clad κ' (under x γ)) $ at_once ! $
        show ! (λ (γ : GName). sep 𝓤 (sem 𝓛 (Own κ' R (under x γ))) (mean 𝓛 (Kept_of 𝓛 R κ κ' s x γ))) γ $ done !)

    pub backs : (s : Share) (x : MutBor (List R.Denot)) (γ : GName) (xs : List R.Denot) → ent 𝓤
        (sep 𝓤 (A.dead κ') (sep 𝓤 (mean 𝓛 (Kept_of 𝓛 R κ κ' s x γ)) (sem 𝓛 (finally R γ xs))))
        (H.⇛ (guard 𝓤 (length xs ≡ length x.now) (sep 𝓤 (sem 𝓛 (Own κ R (at_last x xs))) (A.lft κ s))))
    backs s x γ xs =
        qed 𝓛 (‵ (fdead κ') ∷ (Kept_of 𝓛 R κ κ' s x γ) ∷ ‵ (finally R γ xs) ∷ []) ∵ updating ! $
        use3 𝓛 (later (given (length xs ≡ length x.now) (‵ ((Bare erased κ R).own_val (at_last x xs)) ⊛ ‵ (flft κ s))))
        (sl_relent_backˡ 𝓛 R κ s κ' x.ref_ptr.0 x.ref_ptr.1 x.ghost_name γ x.now xs) $
        await ! tt $ learn ! (λ e. split ! $ use1 𝓛 (‵ (Own κ R (at_last x xs))) (clad κ (at_last x xs)) $
        at_once ! $ check ! e $ done !)

    module _ (q : Share) (x y : MutBor (List R.Denot)) where
      pub lends_both : ent 𝓤 (sep 𝓤 (sem 𝓛 (Own κ R x)) (sep 𝓤 (sem 𝓛 (Own κ R y)) (A.lft κ q)))
          (H.⇛ (ex 𝓤 (λ (g : GName × GName). mean 𝓛 (Lent 𝓛 R κ κ' q x y g))))
      lends_both =
          qed 𝓛 (‵ (Own κ R x) ∷ ‵ (Own κ R y) ∷ ‵ (flft κ q) ∷ []) ∵ updating ! $ move ! (2 ∷ []) $
          use1 𝓛 (‵ (flft κ (left q)) ⊛ ‵ (flft κ (right q))) (𝓛.lfts.lft_split κ q) $ split ! $
          move ! (2 ∷ 0 ∷ []) $
          use2 𝓛 (later (some (λ (γ : GName). ‵ (Own κ' R (under x γ)) ⊛ (Kept_of 𝓛 R κ κ' (left q) x γ))))
          (lends (left q) x) $ await ! tt $ pick ! (λ γ. move ! (2 ∷ 1 ∷ []) $
          use2 𝓛 (later (some (λ (δ : GName). ‵ (Own κ' R (under y δ)) ⊛ (Kept_of 𝓛 R κ κ' (right q) y δ))))
          (lends (right q) y) $ await ! tt $ pick ! (λ δ. split ! $ move ! (2 ∷ []) $ split ! $
          -- [x at κ'; what is kept of it; y at κ'; what is kept of it]
          move ! (1 ∷ 3 ∷ []) $ join ! $ move ! (2 ∷ 0 ∷ []) $ join ! $ move ! (1 ∷ 0 ∷ []) $ join ! $ at_once ! $
          show ! (λ (g : GName × GName). mean 𝓛 (Lent 𝓛 R κ κ' q x y g)) (γ, δ) $ done !))

      pub both_back : (g : GName × GName) (xs ys : List R.Denot) → ent 𝓤
          (sep 𝓤 (A.dead κ')
          (sep 𝓤 (mean 𝓛 (Kept 𝓛 R κ κ' q x y g))
          (sep 𝓤 (sem 𝓛 (finally R g.0 xs)) (sem 𝓛 (finally R g.1 ys)))))
          (H.⇛ (sep 𝓤 (sem 𝓛 (Own κ R (at_last x xs))) (sep 𝓤 (sem 𝓛 (Own κ R (at_last y ys))) (A.lft κ q))))
      both_back g xs ys =
          qed 𝓛 (‵ (fdead κ') ∷ Kept 𝓛 R κ κ' q x y g ∷ ‵ (finally R g.0 xs) ∷ ‵ (finally R g.1 ys) ∷ []) ∵
          updating ! $ use1 𝓛 (‵ (fdead κ') ⊛ ‵ (fdead κ')) (𝓛.lfts.dead_dup κ') $ split ! $
          move ! (2 ∷ []) $ split ! $ move ! (2 ∷ 0 ∷ 4 ∷ []) $
          use3 𝓛 (later (given (length xs ≡ length x.now)
          (‵ (Own κ R (at_last x xs)) ⊛ ‵ (flft κ (left q)))))
          (backs (left q) x g.0 xs) $ await ! tt $ learn ! (λ _. move ! (2 ∷ 1 ∷ 3 ∷ []) $
          use3 𝓛 (later (given (length ys ≡ length y.now)
          (‵ (Own κ R (at_last y ys)) ⊛ ‵ (flft κ (right q)))))
          (backs (right q) y g.1 ys) $ await ! tt $ learn ! (λ _. split ! $ move ! (2 ∷ []) $ split ! $
          -- [x; the left half of the token; y; the right half]
          move ! (1 ∷ 3 ∷ []) $ use2 𝓛 (‵ (flft κ q)) (𝓛.lfts.lft_join κ q) $ move ! (1 ∷ 2 ∷ 0 ∷ []) $ at_once ! $
          done !))
