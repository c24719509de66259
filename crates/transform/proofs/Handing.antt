-- The last ghost step of the transform: both areas, as `run` leaves them, are given up for good, so that what they hold
-- at last is known, and the front of the one that holds the spectrum is shared for all the time that their loan has
-- left. The two steps are the kit's (borrow.Rule.Slice.Handed and Prefix), which leave the machine value out.
--     Front κ x n zs      what the front of x owns, as a shared slice of n entries, the list zs
--     part m x y t     the part of the areas x and y, in the first where t is true
--     Part m x y t κ n    what it owns, as a slice of n entries shared for κ
--     left_promised    what `run` leaves in the areas is what the transform promises of them
--     fronts_out       any two areas: the front n of x, shared, and the last lists of both
--     hands            of the transform's areas, from what `run` promises: the part that 01 says, and both last lists
-- Of the rules' definitions it uses the laws of AreasAfter.antt alone.  Assumes `Logic`.
use Prim.Native.Nat.{ℕ}
use mathlib.Core.Path.{◌≡◌, refl, sym, ◌∙◌, ap, subst}
use mathlib.Core.Bool.{Bool, true, false, cond}
use mathlib.Core.List.{List, [], ◌∷◌}
use lib.IntN.{ℤ}
use lib.ListN.{length, take}
use seplogic.Ra.Ura.{Ura}
use mir.Syntax.{erased, w32}
use mir.Val.{Val}
use base.Logic.{SProp, ent, sep}
use base.Fml.{Lft, Share, Fml, flft}
use types.Logic.{Logic, sem}
use types.Kit.{‵, ◌⊛◌, later, ◌$◌, ◌∵◌, !, qed, move, use1, use2, use3, rewrite, split, split3}
use types.Kit.{fsplit, fjoin, feq_i, await, updating, now as at_once, done}
use denote.Ref.{Bor, MutBor, at_last}
use denote.Builtin.{i32}
use denote.Signed.{sint_row_laws}
use denote.Slice.{slice_val, shr_slice_vals, ShrSlice, finally}
use borrow.Table.Copies.{c_s_int, Shares-copy}
use borrow.Table.Owned.{MutSlice as Bare, ShrSlice as BareShr, mut_slice_Lawful}
use borrow.Rule.Slice.Handed.{sl_Share}
use borrow.Rule.Slice.Prefix.{shs_prefix_same}
use Rattle.rules.specs.Areas.{first_after, second_after, part_of, part_length, part_in_first}
use Rattle.transform.specs.Transformed.{Ran, AtLastOf, AtLast}
use Rattle.transform.proofs.AreasAfter.{length_part_of, part_of_first, part_of_second}
use Rattle.transform.proofs.Again.{Own, bared}
use Rattle.transform.proofs.Calling.{Both}

-- x as a shared slice, at the list zs
abbrev at_list : MutBor (List ℤ) → List ℤ → Bor (List ℤ)
at_list x zs = record { ref_ptr = x.ref_ptr; now = zs }

abbrev Front : Lft → MutBor (List ℤ) → ℕ → List ℤ → Fml
Front κ x n zs = (ShrSlice erased κ i32).own_val (at_list x zs) (slice_val x.ref_ptr n ∷ [])

module _ (m : ℕ) (x y : MutBor (List ℤ)) (t : Bool) where
  abbrev pub part : Bor (List ℤ)
  part = record { ref_ptr = cond t x.ref_ptr y.ref_ptr; now = part_of m x.now y.now }

  abbrev pub Part : Lft → ℕ → Fml
  Part κ n = (ShrSlice erased κ i32).own_val part (slice_val (cond t x.ref_ptr y.ref_ptr) n ∷ [])

-- what `run` leaves in the areas is what the transform promises of them
pub left_promised : (m : ℕ) (x y : MutBor (List ℤ)) {n : ℕ} {xs ys : List ℤ} → Ran m x.now y.now n xs ys →
    AtLastOf x y xs ys ≡ AtLast m x y
left_promised m x y {n} {xs} {ys} ran =
    ap (λ (l : List ℤ). AtLastOf x y l ys) ran.first
    ∙ ap (λ (l : List ℤ). AtLastOf x y (first_after m x.now y.now) l) ran.second

module _ {M : Type 1} {𝓤 : Ura M} (𝓛 : Logic 𝓤) (κ : Lft) (q : Share) where
  open 𝓛 use {H, A}

  module _ (x y : MutBor (List ℤ)) (xs ys zs : List ℤ) (n : ℕ) where
    abbrev Cut : SProp 𝓤
    Cut = sep 𝓤 (sem 𝓛 (Front κ x n zs)) (sep 𝓤 (A.lft κ q) (sem 𝓛 (AtLastOf x y xs ys)))

    fronts_out : zs ≡ take n xs → length zs ≡ n → ent 𝓤 (Both 𝓛 κ q x y xs ys) (H.⇛ Cut)
    fronts_out e l =
        qed 𝓛 (‵ (Own κ i32 (at_last x xs)) ∷ ‵ (Own κ i32 (at_last y ys)) ∷ ‵ (flft κ q) ∷ []) ∵ updating ! $
        move ! (1 ∷ []) $ use1 𝓛 (‵ ((Bare erased κ i32).own_val (at_last y ys))) (bared 𝓛 i32 κ (at_last y ys)) $
        use1 𝓛 (later (‵ (finally i32 y.ghost_name ys))) ((mut_slice_Lawful 𝓛 erased κ i32).drops (at_last y ys)) $
        await ! tt $ move ! (1 ∷ []) $
        use1 𝓛 (‵ ((Bare erased κ i32).own_val (at_last x xs))) (bared 𝓛 i32 κ (at_last x xs)) $ move ! (0 ∷ 2 ∷ []) $
        use2 𝓛 (later (‵ ((BareShr erased κ i32).own_val (at_list x xs)) ⊛ ‵ (finally i32 x.ghost_name xs)
        ⊛ ‵ (flft κ q)))
        (sl_Share 𝓛 i32 x.ref_ptr.0 x.ref_ptr.1 x.ghost_name xs (sint_row_laws w32) κ q
        (Shares-copy 𝓛 (c_s_int w32) κ)) $ await ! tt $ split3 ! $
        -- [x, shared; the last list of x; the token; the last list of y]
        move ! (0 ∷ 2 ∷ []) $
        use2 𝓛 (later (‵ ((BareShr erased κ i32).own_val (at_list x (take n xs))) ⊛ ‵ (flft κ q)))
        (shs_prefix_same 𝓛 i32 κ q x.ref_ptr.0 x.ref_ptr.1 xs n) $ await ! tt $ split ! $
        rewrite ! 0 (λ (l : List ℤ). ‵ ((BareShr erased κ i32).own_val (at_list x l))) (sym e) refl $ fsplit ! $
        feq_i ! (List Val) (slice_val x.ref_ptr n ∷ []) (shr_slice_vals (at_list x zs))
        (ap (λ (j : ℕ). slice_val x.ref_ptr j ∷ []) (sym l)) $ fjoin ! $ fjoin ! $
        -- [the front; the token; the last lists of x and of y]
        move ! (2 ∷ 3 ∷ []) $ fjoin ! $ move ! (1 ∷ 2 ∷ 0 ∷ []) $ at_once ! $ done !

  module _ (m : ℕ) (x y : MutBor (List ℤ)) where
    -- from the areas at the lists of z, a part of as many entries as z says
    abbrev Out : Bool → ℕ × List ℤ × List ℤ → SProp 𝓤
    Out t z = sep 𝓤 (sem 𝓛 (Part m x y t κ z.0)) (sep 𝓤 (A.lft κ q) (sem 𝓛 (AtLastOf x y z.1 z.2)))

    abbrev Hands : Bool → ℕ × List ℤ × List ℤ → Type 1
    Hands t z = ent 𝓤 (Both 𝓛 κ q x y z.1 z.2) (H.⇛ (Out t z))

    abbrev n : ℕ
    n = part_length m x.now y.now

    abbrev xs : List ℤ
    xs = first_after m x.now y.now

    abbrev ys : List ℤ
    ys = second_after m x.now y.now

    abbrev zs : List ℤ
    zs = part_of m x.now y.now

    hands_at : (t : Bool) → part_in_first m x.now y.now ≡ t → Hands t (n, xs, ys)
    hands_at true e =
        fronts_out x y xs ys zs n (part_of_first m x.now y.now e) (length_part_of m x.now y.now)
    hands_at false e =
        qed 𝓛 (‵ (Own κ i32 (at_last x xs)) ∷ ‵ (Own κ i32 (at_last y ys)) ∷ ‵ (flft κ q) ∷ []) ∵ updating ! $
        move ! (1 ∷ []) $
        use3 𝓛 (later (‵ (Front κ y n zs) ⊛ ‵ (flft κ q) ⊛ ‵ (AtLastOf y x ys xs)))
        (fronts_out y x ys xs zs n (part_of_second m x.now y.now e) (length_part_of m x.now y.now)) $
        await ! tt $ split3 ! $ move ! (2 ∷ []) $ fsplit ! $ move ! (1 ∷ 0 ∷ []) $ fjoin ! $
        -- [both last lists; the part; the token]
        move ! (1 ∷ 2 ∷ 0 ∷ []) $ at_once ! $ done !

    pub hands : (t : Bool) → part_in_first m x.now y.now ≡ t → {z : ℕ × List ℤ × List ℤ} →
        Ran m x.now y.now z.0 z.1 z.2 → Hands t z
    hands t e ran = subst (Hands t) (sym (λ i. (ran.count i, ran.first i, ran.second i))) (hands_at t e)
