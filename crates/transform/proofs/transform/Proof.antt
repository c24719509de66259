-- `transform::transform` meets its contract: a walk of its MIR, by hand. Both areas are lent again to `run` and come
-- back as it leaves them (Calling.antt), and on each of the three ways out both are given up for good, and the front of
-- one is shared (Handing.antt; entry and exit are in Edges.antt). All that it knows of `run` is that it meets its
-- contract, and of the rules' definitions the laws of AreasAfter.antt. Both areas are spent: the result names their
-- lifetime.
-- Assumes nothing.
use Prim.Native.Nat.{ℕ, ◌<◌, ◌^◌, ◌%◌}
use native.Mathlib.Nat.{mod-lt, lt_of_lt_of_le}
use mathlib.Core.Path.{◌≡◌, refl, sym, ◌∙◌, ap}
use mathlib.Core.Bool.{Bool, true, false}
use mathlib.Core.List.{List, [], ◌∷◌}
use lib.Dec.{eqb→eq, lit<, lit≤}
use lib.IntN.{ℤ}
use lib.ListN.{length}
use seplogic.Ra.Ura.{Ura}
use mir.Syntax.{named, w32, w64}
use mir.Val.{Val, vint}
use base.Logic.{SProp, ent, emp, via, fst∗}
use base.Fml.{Lft, Share, GName}
use prog.Memory.{Memory}
use prog.Routine.{Routine}
use prog.Wp.{Calls, Loops, WpFn, Tables}
use types.Logic.{Logic}
use contract.Monad.{Fun}
use contract.Running.{tables, tables_of}
use types.Kit.{raw, given, ◌⊛◌, some, later, ◌$◌, ◌∵◌, !, qed, by, move, use1, use2, split, pick, learn}
use types.Kit.{await}
use types.Run.{look, init, store, stop, from, lit, bin, and_then, no_more, assigns, land, returns, returns_within}
use types.Run.{enter, params1, pass1, pass0, free1, free0}
use types.Part.{whole, sub, look_in}
use sound.WpLaws.{FmC, fm_of, WpFn-mono}
use denote.Plain.{uint_vals, uint_Tells, uint_Lawful}
use denote.Builtin.{u32, i32}
use denote.Ref.{MutBor}
use denote.Slice.{slice_val, mut_slice_vals, Room, mut_slice_Tells}
use denote.Steps.{only}
use denote.Exit.{yes}
use denote.Signature.{plain}
use denote.Triple.Spec.{Meets, triple_of}
use denote.Triple.Statement.{Triple}
use denote.Triple.Call.{calls_at}
use denote.Triple.Table.{entered}
use denote.Triple.Walked.{Goes-none, Goes-spent_slice, Walks, walked, walk_Meets}
use Rattle.rules.specs.Areas.{part_in_first}
use Rattle.transform.specs.Transformed.{Ran}
use Rattle.transform.proofs.AreasAfter.{part_in_first_none, part_in_first_even, part_in_first_odd}
use Rattle.transform.proofs.Again.{Kept}
use Rattle.transform.proofs.Calling.{Told, Run, Both, given_to, lent, back}
use Rattle.transform.proofs.Walking.{differs, to_end, becomes, copies, fronts, reborrows, leaves_if, allocates}
use Rattle.transform.proofs.Walking.{free_held, frees_held, sized}
use Rattle.transform.proofs.Edges.{stayed, out, Entered, Post, opened, exits}
use Rattle.transform.proofs.run.Symbol.{name as #transform·run}
use Rattle.transform.proofs.run.Met as run-thm
use Rattle.transform.specs.contracts.transform as transform
use Rattle.transform.specs.contracts.transform.Key.{name as #transform·transform}
use Rattle.transform.proofs.transform.Statement as stated
use Rattle.transform.proofs.transform.Code as code

rest-fits : (m : ℕ) → m % 2 < 2 ^ 32
rest-fits m = lt_of_lt_of_le (mod-lt m (lit< tt)) (lit≤ tt)

module _ {M : Type 1} {𝓤 : Ura M} (𝓛 : Logic 𝓤) (mem : Memory → SProp 𝓤)
    (go : Routine → Fun 𝓤) (κ : Lft) (q : Share) (m : ℕ) (x y : MutBor (List ℤ)) (m_fits : m < 2 ^ 32) where
  open 𝓛 use {H}

  abbrev End : Val → SProp 𝓤
  End = Post 𝓛 κ q m x y mem go

  module _ (z : ℕ × List ℤ × List ℤ) (ran : Ran m x.now y.now z.0 z.1 z.2) where
    leaves : (t : Bool) → part_in_first m x.now y.now ≡ t →
        ent 𝓤 (Both 𝓛 κ q x y z.1 z.2) (End (out x y t z.0))
    leaves t e = exits 𝓛 κ q m x y mem go m_fits t e z ran

  module _ (C : Calls 𝓤 H) (Λ : Loops 𝓤 H) (fm : FmC 𝓤 H 𝓛.laws C)
      (known : Triple 𝓤 (C #transform·run) (Run 𝓛 mem go)) where
    walk : Room i32 (length x.now) → Room i32 (length y.now) → ent 𝓤 (Entered 𝓛 κ q m x y)
        (WpFn 𝓤 H C Λ code.function (vint w32 m ∷ slice_val x.ref_ptr (length x.now) ∷
        slice_val y.ref_ptr (length y.now) ∷ []) End)
    walk roomy roomy' =
        qed 𝓛 (raw (Entered 𝓛 κ q m x y) ∷ []) ∵
        use1 𝓛 (raw (Both 𝓛 κ q x y x.now y.now)) (opened 𝓛 κ q m x y) $
        enter ! C Λ code.function _ _ $ allocates ! (λ _. to_end ! $
        -- from here on local i stands at 2 · i, and what is had of the areas at 28, behind them all
        params1 ! $ pass1 ! (init ! 2 refl (tt, record { fits = m_fits })) $
        pass1 ! (init ! 4 refl (sized roomy.0)) $ pass1 ! (init ! 6 refl (sized roomy'.0)) $ pass0 ! $
        -- the areas are borrowed again, as the arguments of `run`
        reborrows ! refl 4 refl (init ! 10 refl (tt, tt)) (copies ! 10 refl) refl (init ! 12 refl (sized roomy.0)) $
        reborrows ! refl 6 refl (init ! 14 refl (tt, tt)) (copies ! 14 refl) refl (init ! 16 refl (sized roomy'.0)) $
        -- `run`: for the call the context has two entries in front
        move ! (28 ∷ []) $ use1 𝓛 (later (some (λ (ν : ℕ). some (λ (g : GName × GName).
        raw ((Run 𝓛 mem go).pre (given_to 𝓛 mem go m x y ν g)) ⊛ Kept 𝓛 i32 κ (ν ∷ []) q x y g))))
        (lent 𝓛 mem go m x y κ q m_fits) $ await ! tt $ pick ! (λ ν. pick ! (λ g. split ! $
        calls_at ! fm (Run 𝓛 mem go) known (given_to 𝓛 mem go m x y ν g)
        (and_then ! (copies ! 4 refl) (and_then ! (copies ! 14 refl) (and_then ! (copies ! 18 refl) (no_more !)))) (λ w.
        use2 𝓛 (later (some (λ (z : ℕ × List ℤ × List ℤ).
        given (Told m x y w z) (raw (Both 𝓛 κ q x y z.1 z.2))))) (back 𝓛 mem go m x y κ q ν g w) $
        await ! tt $ pick ! (λ z. learn ! (λ told. to_end ! $
        land ! (from ! (stop !)) (init ! 8 refl ((uint_Lawful 𝓛 w64).typed z.0 _ told.0).0) $
        becomes ! 8 refl (ap only told.0.0) $
        -- `if n == 0`
        assigns ! (bin ! (copies ! 8 refl) (lit ! tt) tt) (from ! (stop !)) (init ! 18 refl (tt, tt)) $
        leaves_if ! (copies ! 18 refl) (λ none.
        fronts ! refl (look_in ! 4 (sub ! 0 refl (whole !))) (init ! 20 refl (tt, tt))
        (copies ! 20 refl) (copies ! 8 refl) (init ! 0 refl (sized told.0.1)) $
        returns_within ! End refl (look ! 0 refl) $ frees_held ! 11 _ refl $ free1 ! $ free1 ! $ free1 ! $ free0 ! $
        by ! (leaves z told.1 true (part_in_first_none m x.now y.now
        (sym told.1.count ∙ eqb→eq z.0 0 none)))) (λ more.
        -- `if m % 2 == 0`
        assigns ! (bin ! (copies ! 2 refl) (lit ! tt) (lit< tt)) (from ! (stop !))
        (init ! 22 refl (tt, record { fits = rest-fits m })) $
        assigns ! (bin ! (copies ! 22 refl) (lit ! tt) tt) (from ! (stop !)) (store ! 18 refl (tt, tt)) $
        leaves_if ! (copies ! 18 refl) (λ even.
        fronts ! refl (look_in ! 4 (sub ! 0 refl (whole !))) (init ! 24 refl (tt, tt))
        (copies ! 24 refl) (copies ! 8 refl) (init ! 0 refl (sized told.0.1)) $
        returns_within ! End refl (look ! 0 refl) $
        frees_held ! 10 _ refl $ free1 ! $ frees_held ! 2 _ refl $ free1 ! $ free0 ! $
        by ! (leaves z told.1 true (part_in_first_even m x.now y.now (eqb→eq (m % 2) 0 even)))) (λ odd.
        -- else
        fronts ! refl (look_in ! 6 (sub ! 0 refl (whole !))) (init ! 26 refl (tt, tt))
        (copies ! 26 refl) (copies ! 8 refl) (init ! 0 refl (sized told.0.1)) $
        returns ! (look ! 0 refl) $ frees_held ! 10 _ refl $ free1 ! $ free_held ! $ free1 ! $ free_held ! $ free0 ! $
        by ! (leaves z told.1 false (part_in_first_odd m x.now y.now
        (λ e. differs z.0 0 more (told.1.count ∙ e)) (differs (m % 2) 0 odd)))))))))))

module _ {M : Type 1} {𝓤 : Ura M} (𝓛 : Logic 𝓤) (mem : Memory → SProp 𝓤)
    (go : Routine → Fun 𝓤) where
  open 𝓛 use {H}

  transform-walks : (C : Calls 𝓤 H) (Λ : Loops 𝓤 H) → FmC 𝓤 H 𝓛.laws C →
      Triple 𝓤 (C #transform·run) (Run 𝓛 mem go) →
      Walks 𝓛 transform.ended stayed (WpFn 𝓤 H C Λ code.function) (transform.clauses 𝓛 mem go)
  transform-walks C Λ fm known =
      walked 𝓛 transform.ended stayed (transform.clauses 𝓛 mem go) (WpFn 𝓤 H C Λ code.function)
      (λ κs. (uint_vals w32, (mut_slice_vals, (mut_slice_vals, tt))))
      (λ κs. (uint_Tells w32, (mut_slice_Tells (named 0) κs.0 i32, (mut_slice_Tells (named 0) κs.0 i32, tt))))
      (λ κs qs bounds a g are. via 𝓤 _ (fst∗ 𝓤 _ (emp 𝓤))
      (walk 𝓛 mem go κs.0 qs.0 a.0 a.1.0 a.1.1.0 are.0.1 C Λ fm known are.1.0.0.1
      are.1.1.0.0.1))

  transform-meets : (𝓣 : Tables 𝓤 H) → Triple 𝓤 (𝓣.C #transform·run) (Run 𝓛 mem go) →
      Meets 𝓛 transform.signature (WpFn 𝓤 H 𝓣.C 𝓣.Λ code.function) (transform.spec 𝓛 mem go)
  transform-meets 𝓣 known =
      walk_Meets 𝓛 transform.ended stayed (
        Goes-none 𝓛 1 (λ _. u32) yes (λ κs x f. refl),
        (
          Goes-spent_slice 𝓛 1 (0 ∷ []) tt (plain (λ _. i32)),
          (Goes-spent_slice 𝓛 1 (0 ∷ []) tt (plain (λ _. i32)), tt),
        ),
      )
      (transform.clauses 𝓛 mem go) (WpFn 𝓤 H 𝓣.C 𝓣.Λ code.function) (WpFn-mono 𝓤 H 𝓛.laws 𝓣 code.function)
      (transform-walks 𝓣.C 𝓣.Λ (fm_of 𝓤 H 𝓛.laws 𝓣) known)

pub transform_spec : {M : Type 1} → stated.statement M
unfolding tables_of
transform_spec 𝓤 𝓛 𝓜 𝓡 wired =
    entered 𝓤 𝓛.H (triple_of 𝓛 transform.signature (transform.spec 𝓛 𝓜.mem 𝓡.returns))
    (tables 𝓤 𝓛.H 𝓜 𝓡 𝓡.env).C (tables 𝓤 𝓛.H 𝓜 𝓡 𝓡.env).Λ #transform·transform code.function
    (code.unfolded 𝓤 𝓛.H 𝓜 𝓡 wired)
    (transform-meets 𝓛 𝓜.mem 𝓡.returns (tables_of 𝓤 𝓛.H 𝓜 (tables 𝓤 𝓛.H 𝓜 𝓡 𝓡.env))
    (run-thm.met 𝓤 𝓛 𝓜 𝓡 (code.calls-transform::run 𝓡.env wired)))
