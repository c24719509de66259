-- `caller::look` meets its contract: a walk of its MIR, by hand. Both areas are lent again to `transform`, for a
-- lifetime that is made for the part; once `front` has read the part that lifetime ends, and both areas are back at the
-- lists that `transform` promised. What needs no machine is beside this file: entry and exit in Edges.antt; the three
-- calls in Parting.antt, Reading.antt and Asking.antt.
--     walk             the body, from what is had on entry to what is asked on exit
--     look-walks, look-meets, look_spec    so it meets its contract, in the forms that the kit asks for
-- All that it knows of its callees is that they meet their contracts.
-- Assumes nothing.
use Prim.Native.Nat.{ℕ, ◌<◌, ◌^◌}
use mathlib.Core.Path.{refl, ◌∙◌, ap}
use mathlib.Core.List.{List, [], ◌∷◌}
use lib.IntN.{ℤ}
use lib.ListN.{length}
use seplogic.Ra.Ura.{Ura}
use base.Fraction.{full_share}
use mir.Syntax.{named, erased, w32}
use mir.Val.{vint}
use mir.ValLaws.{of_z_fits}
use base.Logic.{SProp, ent, emp, via, fst∗}
use base.Fml.{Lft, Share, GName, flft}
use prog.Memory.{Memory}
use prog.Routine.{Routine}
use prog.Wp.{Calls, Loops, WpFn, Tables}
use types.Logic.{Logic}
use contract.Monad.{Fun}
use contract.Running.{tables, tables_of}
use types.Kit.{‵, raw, given, ◌⊛◌, some, later, ◌$◌, ◌∵◌, !, qed, by, move, use1, use2, use3, split, pick}
use types.Kit.{learn, await}
use types.Run.{look as looks, init, stop, from, and_then, no_more, assigns, land, returns, enter, params1}
use types.Run.{pass1, pass0, free0}
use types.Part.{agg}
use sound.WpLaws.{FmC, fm_of, WpFn-mono}
use denote.Plain.{uint_vals, uint_Tells}
use denote.Signed.{sint_Lawful}
use denote.Builtin.{u32, i32}
use denote.Ref.{Bor, MutBor}
use denote.Slice.{slice_val, mut_slice_vals, Room, mut_slice_Tells, shr_slice_Lawful}
use denote.Steps.{only}
use denote.Exit.{yes}
use denote.Signature.{plain}
use denote.Triple.Spec.{Meets, triple_of}
use denote.Triple.Statement.{Triple}
use denote.Triple.Call.{calls_at}
use denote.Triple.Table.{entered}
use denote.Triple.Walked.{Goes-none, Goes-slice, Walks, walked, walk_Meets}
use Rattle.range.specs.Signed.{entry}
use Rattle.transform.proofs.Walking.{to_end, becomes, copies, reborrows, allocates, frees_held, sized}
use Rattle.transform.proofs.transform.Symbol.{name as #transform·transform}
use Rattle.transform.proofs.transform.Met as transform-thm
use Rattle.caller.proofs.Sharing.{HadShr}
use Rattle.caller.proofs.Parting.{left_first, left_second, Both, Meanwhile, Known, Handing}
use Rattle.caller.proofs.Parting.{Transform, given_transform, lent, parted, over}
use Rattle.caller.proofs.Reading.{Front, Fronted, given_front, to_front, front_over}
use Rattle.caller.proofs.Asking.{Other, Answered, Shared, given_other, to_other, other_over}
use Rattle.caller.proofs.Edges.{stayed, Entered, Post, opened, exits}
use Rattle.caller.proofs.front.Symbol.{name as #caller·front}
use Rattle.caller.proofs.front.Met as front-thm
use Rattle.caller.proofs.other.Symbol.{name as #caller·other}
use Rattle.caller.proofs.other.Met as other-thm
use Rattle.caller.specs.contracts.look as look
use Rattle.caller.specs.contracts.look.Key.{name as #caller·look}
use Rattle.caller.proofs.look.Statement as stated
use Rattle.caller.proofs.look.Code as code

module _ {M : Type 1} {𝓤 : Ura M} (𝓛 : Logic 𝓤) (mem : Memory → SProp 𝓤)
    (go : Routine → Fun 𝓤) (κ₀ κ₁ : Lft) (q₀ q₁ : Share) (m : ℕ) (x y : MutBor (List ℤ)) (m_fits : m < 2 ^ 32) where
  -- both areas as `transform` leaves them
  open 𝓛 use {H}

  abbrev After : SProp 𝓤
  After = Both κ₀ κ₁ q₀ q₁ 𝓛 (left_first m x y) (left_second m x y)

  -- what the three contracts bind outside
  abbrev to-transform : ℕ → GName × GName → (Transform 𝓛 mem go).Ghost
  to-transform = given_transform 𝓛 mem go κ₀ κ₁ q₀ q₁ m x y

  abbrev to_read : ℕ → Bor (List ℤ) → (Front 𝓛 mem go).Ghost
  to_read ν = given_front 𝓛 mem go (ν ∷ []) full_share

  abbrev to-ask : ℕ → (Other 𝓛 mem go).Ghost
  to-ask = given_other 𝓛 mem go κ₀ κ₁ q₀ q₁ m x y

  module _ (C : Calls 𝓤 H) (Λ : Loops 𝓤 H) (fm : FmC 𝓤 H 𝓛.laws C)
      (known-transform : Triple 𝓤 (C #transform·transform) (Transform 𝓛 mem go))
      (known-front : Triple 𝓤 (C #caller·front) (Front 𝓛 mem go))
      (known-other : Triple 𝓤 (C #caller·other) (Other 𝓛 mem go)) where
    walk : Room i32 (length x.now) → Room i32 (length y.now) → ent 𝓤 (Entered 𝓛 κ₀ κ₁ q₀ q₁ m x y)
        (WpFn 𝓤 H C Λ code.function (vint w32 m ∷ slice_val x.ref_ptr (length x.now) ∷
        slice_val y.ref_ptr (length y.now) ∷ []) (Post 𝓛 κ₀ κ₁ q₀ q₁ m x y mem go))
    walk roomy roomy' =
        qed 𝓛 (raw (Entered 𝓛 κ₀ κ₁ q₀ q₁ m x y) ∷ []) ∵
        use1 𝓛 (raw (Both κ₀ κ₁ q₀ q₁ 𝓛 x y)) (opened 𝓛 κ₀ κ₁ q₀ q₁ m x y) $
        enter ! C Λ code.function _ _ $ allocates ! (λ _. to_end ! $
        -- from here on local i stands at 2 · i, and what is had besides from 30 on, behind them all
        params1 ! $ pass1 ! (init ! 2 refl (tt, record { fits = m_fits })) $
        pass1 ! (init ! 4 refl (sized roomy.0)) $ pass1 ! (init ! 6 refl (sized roomy'.0)) $ pass0 ! $
        -- `let part = transform::transform(m, first, second)`: for a call the context has two entries in front
        reborrows ! refl 4 refl (init ! 14 refl (tt, tt)) (copies ! 14 refl) refl (init ! 16 refl (sized roomy.0)) $
        reborrows ! refl 6 refl (init ! 18 refl (tt, tt)) (copies ! 18 refl) refl (init ! 20 refl (sized roomy'.0)) $
        move ! (30 ∷ []) $ use1 𝓛 (later (some (λ (ν : ℕ). some (λ (g : GName × GName).
        raw ((Transform 𝓛 mem go).pre (to-transform ν g)) ⊛ Meanwhile κ₀ κ₁ q₀ q₁ 𝓛 x y ν g))))
        (lent 𝓛 mem go κ₀ κ₁ q₀ q₁ m x y m_fits) $ await ! tt $ pick ! (λ ν. pick ! (λ g. split ! $
        calls_at ! fm (Transform 𝓛 mem go) known-transform (to-transform ν g)
        (and_then ! (copies ! 4 refl) (and_then ! (copies ! 18 refl) (and_then ! (copies ! 22 refl) (no_more !)))) (λ w.
        use1 𝓛 (later (some (λ (r : Bor (List ℤ)). given (Handing m x y ν w r)
        (raw (HadShr 𝓛 i32 (ν ∷ []) full_share r) ⊛ ‵ (Known m x y g)))))
        (parted 𝓛 mem go κ₀ κ₁ q₀ q₁ m x y ν g w) $ await ! tt $ pick ! (λ r. learn ! (λ handing. split ! $
        -- [the part; what is known of the areas; what is kept of them; the locals]
        to_end ! $ to_end ! $ to_end ! $
        land ! (from ! (stop !)) (init ! 8 refl
        ((shr_slice_Lawful 𝓛 erased (ν ∷ []) i32).typed r (w ∷ []) handing.0).0) $
        becomes ! 8 refl (ap only handing.0.0.0) $
        -- `let total = front(part)`, after which the part is over: for this call the context has one entry in front
        move ! (30 ∷ []) $ use1 𝓛 (raw ((Front 𝓛 mem go).pre (to_read ν r)))
        (to_front 𝓛 mem go (ν ∷ []) full_share r) $
        calls_at ! fm (Front 𝓛 mem go) known-front (to_read ν r) (and_then ! (copies ! 9 refl) (no_more !)) (λ v.
        use1 𝓛 (later (some (λ (z : ℤ). given (Fronted r.now v z) (‵ (flft (ν ∷ []) full_share)))))
        (front_over 𝓛 mem go (ν ∷ []) full_share r v) $ await ! tt $ pick ! (λ z. learn ! (λ fronted.
        move ! (0 ∷ 31 ∷ 32 ∷ []) $ use3 𝓛 (later (raw After))
        (over 𝓛 mem go κ₀ κ₁ q₀ q₁ m x y ν g) $ await ! tt $ to_end ! $
        land ! (from ! (stop !)) (init ! 10 refl ((sint_Lawful 𝓛 w32).typed z (v ∷ []) fronted.0).0) $
        becomes ! 10 refl (ap only fronted.0.0) $
        -- `let kept = other(m, first, second)`
        reborrows ! refl 4 refl (init ! 22 refl (tt, tt)) (copies ! 22 refl) refl (init ! 24 refl (sized roomy.0)) $
        reborrows ! refl 6 refl (init ! 26 refl (tt, tt)) (copies ! 26 refl) refl (init ! 28 refl (sized roomy'.0)) $
        move ! (30 ∷ []) $ use1 𝓛 (later (some (λ (ξ : ℕ).
        raw ((Other 𝓛 mem go).pre (to-ask ξ)) ⊛ Shared κ₀ κ₁ q₀ q₁ 𝓛 (left_first m x y) (left_second m x y) ξ)))
        (to_other 𝓛 mem go κ₀ κ₁ q₀ q₁ m x y m_fits) $ await ! tt $ pick ! (λ ξ. split ! $
        calls_at ! fm (Other 𝓛 mem go) known-other (to-ask ξ)
        (and_then ! (copies ! 4 refl) (and_then ! (copies ! 26 refl) (and_then ! (copies ! 30 refl) (no_more !)))) (λ u.
        use2 𝓛 (later (some (λ (k : ℤ). given (Answered m (left_first m x y) (left_second m x y) u k) (raw After))))
        (other_over 𝓛 mem go κ₀ κ₁ q₀ q₁ m x y ξ u) $ await ! tt $ pick ! (λ k. learn ! (λ answered. to_end ! $
        land ! (from ! (stop !)) (init ! 12 refl ((sint_Lawful 𝓛 w32).typed k (u ∷ []) answered.0).0) $
        becomes ! 12 refl (ap only answered.0.0) $
        -- `Ends { total, kept }`
        assigns ! (agg ! (and_then ! (copies ! 10 refl) (and_then ! (copies ! 12 refl) (no_more !)))) (from ! (stop !))
        (init ! 0 refl (
          tt,
          (
            of_z_fits w32 z (record { sfits = fronted.0.1 }),
            (of_z_fits w32 k (record { sfits = answered.0.1 }), tt),
          ),
        )) $
        returns ! (looks ! 0 refl) $ frees_held ! 15 _ refl $ free0 ! $
        by ! (exits 𝓛 κ₀ κ₁ q₀ q₁ m x y mem go m_fits z k v u fronted.0 answered.0 (record {
          total = fronted.1 ∙ ap (λ (part : List ℤ). entry part 0) handing.1;
          kept = answered.1;
          first = refl;
          second = refl;
        })))))))))))))))

module _ {M : Type 1} {𝓤 : Ura M} (𝓛 : Logic 𝓤) (mem : Memory → SProp 𝓤)
    (go : Routine → Fun 𝓤) where
  open 𝓛 use {H}

  look-walks : (C : Calls 𝓤 H) (Λ : Loops 𝓤 H) → FmC 𝓤 H 𝓛.laws C →
      Triple 𝓤 (C #transform·transform) (Transform 𝓛 mem go) → Triple 𝓤 (C #caller·front) (Front 𝓛 mem go) →
      Triple 𝓤 (C #caller·other) (Other 𝓛 mem go) →
      Walks 𝓛 look.ended stayed (WpFn 𝓤 H C Λ code.function) (look.clauses 𝓛 mem go)
  look-walks C Λ fm known-transform known-front known-other =
      walked 𝓛 look.ended stayed (look.clauses 𝓛 mem go) (WpFn 𝓤 H C Λ code.function)
      (λ κs. (uint_vals w32, (mut_slice_vals, (mut_slice_vals, tt))))
      (λ κs. (uint_Tells w32, (mut_slice_Tells (named 0) κs.0 i32, (mut_slice_Tells (named 1) κs.1.0 i32, tt))))
      (λ κs qs bounds a g are. via 𝓤 _ (fst∗ 𝓤 _ (emp 𝓤))
      (walk 𝓛 mem go κs.0 κs.1.0 qs.0 qs.1.0 a.0 a.1.0 a.1.1.0 are.0.1 C Λ fm
      known-transform known-front known-other are.1.0.0.1 are.1.1.0.0.1))

  look-meets : (𝓣 : Tables 𝓤 H) → Triple 𝓤 (𝓣.C #transform·transform) (Transform 𝓛 mem go) →
      Triple 𝓤 (𝓣.C #caller·front) (Front 𝓛 mem go) → Triple 𝓤 (𝓣.C #caller·other) (Other 𝓛 mem go) →
      Meets 𝓛 look.signature (WpFn 𝓤 H 𝓣.C 𝓣.Λ code.function) (look.spec 𝓛 mem go)
  look-meets 𝓣 known-transform known-front known-other =
      walk_Meets 𝓛 look.ended stayed (
        Goes-none 𝓛 2 (λ _. u32) yes (λ κs x f. refl),
        (
          Goes-slice 𝓛 2 0 tt (plain (λ _. i32)),
          (Goes-slice 𝓛 2 1 tt (plain (λ _. i32)), tt),
        ),
      )
      (look.clauses 𝓛 mem go) (WpFn 𝓤 H 𝓣.C 𝓣.Λ code.function) (WpFn-mono 𝓤 H 𝓛.laws 𝓣 code.function)
      (look-walks 𝓣.C 𝓣.Λ (fm_of 𝓤 H 𝓛.laws 𝓣) known-transform known-front known-other)

pub look_spec : {M : Type 1} → stated.statement M
unfolding tables_of
look_spec 𝓤 𝓛 𝓜 𝓡 wired =
    entered 𝓤 𝓛.H (triple_of 𝓛 look.signature (look.spec 𝓛 𝓜.mem 𝓡.returns))
    (tables 𝓤 𝓛.H 𝓜 𝓡 𝓡.env).C (tables 𝓤 𝓛.H 𝓜 𝓡 𝓡.env).Λ #caller·look code.function
    (code.unfolded 𝓤 𝓛.H 𝓜 𝓡 wired)
    (look-meets 𝓛 𝓜.mem 𝓡.returns (tables_of 𝓤 𝓛.H 𝓜 (tables 𝓤 𝓛.H 𝓜 𝓡 𝓡.env))
    (transform-thm.met 𝓤 𝓛 𝓜 𝓡 (code.calls-transform::transform 𝓡.env wired))
    (front-thm.met 𝓤 𝓛 𝓜 𝓡 (code.calls-caller::front 𝓡.env wired))
    (other-thm.met 𝓤 𝓛 𝓜 𝓡 (code.calls-caller::other 𝓡.env wired)))
