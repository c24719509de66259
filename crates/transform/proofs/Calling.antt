-- The call of `run` by the holder of both areas, without the machine: they are lent again to it, for a lifetime that is
-- made for the call, and come back as it leaves them. All that is known of `run` is its contract.
--     Run              its contract
--     Both xs ys       what is had of the areas x and y at these lists, with the token of their lifetime
--     passed m x y g   the arguments: m, and the areas under the names g.   vals     their machine values
--     given_to ν g     what the contract binds outside: the areas are lent for ν under g
--     lent             Both as it stands  ⊢ ⇛ ∃ ν g. what `run` asks ∗ what is kept
--     back             what `run` leaves where it returns w ∗ what was kept  ⊢ ⇛ ∃ z. Both at the lists of z
--                      z is a number and two lists, w is that number, and `run`'s promise holds of them (Told)
-- Assumes `Logic`.
use Prim.Native.Nat.{ℕ, ◌<◌, ◌^◌}
use mathlib.Core.Path.{refl}
use mathlib.Core.List.{List, [], ◌∷◌}
use lib.IntN.{ℤ}
use seplogic.Ra.Ura.{Ura}
use base.Fraction.{full_share, left, right}
use mir.Syntax.{w32}
use mir.Val.{Val, vint}
use base.Logic.{SProp, ent, sep, ex, guard, id⊢}
use base.Fml.{Lft, Share, GName, ftrue, flft}
use prog.Memory.{Memory}
use prog.Routine.{Routine}
use types.Logic.{Logic, sem}
use contract.Monad.{Fun, fact}
use types.Kit.{Item, mean, ‵, raw, ◌⊛◌, some, later, ◌$◌, ◌∵◌, !, qed, move, keep, use1, use2, use3, split}
use types.Kit.{split3, join}
use types.Kit.{pick, drop, group, fsplit, fjoin, check, show, await, updating, now as at_once, done}
use types.Tokens.{lft_new, lft_end}
use denote.Laws.{Is, shows}
use denote.Plain.{uint_Makes}
use denote.Builtin.{u32, i32, usize}
use denote.Ref.{MutBor, at_last}
use denote.Slice.{mut_slice_vals}
use denote.Steps.{owned, facts, heard, nothing}
use denote.Triple.Spec.{triple_of}
use denote.Triple.Statement.{Contract}
use denote.Triple.Clauses.{ensured, lasts}
use Rattle.transform.specs.Transformed.{Ran}
use Rattle.transform.proofs.Again.{Own, under, Kept, Lent, lends_both, both_back}
use Rattle.transform.specs.contracts.run as run

-- what `run` is passed
abbrev Args : Type 0
Args = ℕ × (MutBor (List ℤ) × (MutBor (List ℤ) × Unit {0}))

module _ (m : ℕ) (x y : MutBor (List ℤ)) where
  abbrev pub passed : GName × GName → Args
  passed g = (m, (under x g.0, (under y g.1, tt)))

  abbrev pub vals : List Val × (List Val × (List Val × Unit {0}))
  vals = (vint w32 m ∷ [], (mut_slice_vals x, (mut_slice_vals y, tt)))

  -- it has returned w, and leaves z
  abbrev pub Told : Val → ℕ × List ℤ × List ℤ → Type 0
  Told w z = Is usize z.0 (w ∷ []) × Ran m x.now y.now z.0 z.1 z.2

module _ {M : Type 1} {𝓤 : Ura M} (𝓛 : Logic 𝓤) where
  open 𝓛 use {H, A}

  abbrev pub Run : (mem : Memory → SProp 𝓤) (go : Routine → Fun 𝓤) → Contract 𝓤
  Run mem go = triple_of 𝓛 run.signature (run.spec 𝓛 mem go)

  module _ (κ : Lft) (q : Share) (x y : MutBor (List ℤ)) where
    abbrev pub Both : List ℤ → List ℤ → SProp 𝓤
    Both xs ys =
        sep 𝓤 (sem 𝓛 (Own κ i32 (at_last x xs))) (sep 𝓤 (sem 𝓛 (Own κ i32 (at_last y ys))) (A.lft κ q))

  module _ (mem : Memory → SProp 𝓤) (go : Routine → Fun 𝓤) (m : ℕ) (x y : MutBor (List ℤ)) where
    abbrev pub given_to : ℕ → GName × GName → (Run mem go).Ghost
    given_to ν g = (
      (
        (ν ∷ [], (ν ∷ [], tt)),
        (left full_share, (right full_share, tt)),
        tt,
        passed m x y g,
        vals m x y,
      ),
      tt,
    )

    module _ (κ : Lft) (q : Share) where
      goes : m < 2 ^ 32 → (ν : ℕ) (g : GName × GName) → ent 𝓤
          (sep 𝓤 (A.lft (ν ∷ []) full_share)
          (sep 𝓤 (sem 𝓛 (Own (ν ∷ []) i32 (under x g.0))) (sem 𝓛 (Own (ν ∷ []) i32 (under y g.1)))))
          ((Run mem go).pre (given_to ν g))
      goes m_fits ν g =
          qed 𝓛 (‵ (flft (ν ∷ []) full_share) ∷ ‵ (Own (ν ∷ []) i32 (under x g.0)) ∷
          ‵ (Own (ν ∷ []) i32 (under y g.1)) ∷ []) ∵
          -- `run` has a lifetime for each area, and both are ν: each is given one half of its token
          use1 𝓛 (‵ (flft (ν ∷ []) (left full_share)) ⊛ ‵ (flft (ν ∷ []) (right full_share)))
          (𝓛.lfts.lft_split (ν ∷ []) full_share) $ split ! $
          nothing ! $ move ! (2 ∷ 0 ∷ []) $ join ! $ move ! (1 ∷ 0 ∷ []) $ join ! $
          nothing ! $ move ! (3 ∷ 0 ∷ []) $ fjoin ! $ move ! (2 ∷ 0 ∷ []) $ fjoin ! $
          owned ! u32 (Is u32) (uint_Makes 𝓛 w32) m _ (refl, m_fits) $ fjoin ! $ move ! (1 ∷ 0 ∷ []) $ join ! $
          nothing ! $ move ! (1 ∷ 0 ∷ []) $ done !

      abbrev Meanwhile : ℕ → GName × GName → Item 𝓤
      Meanwhile ν g = Kept 𝓛 i32 κ (ν ∷ []) q x y g

      abbrev Called : ℕ → GName × GName → SProp 𝓤
      Called ν g = sep 𝓤 ((Run mem go).pre (given_to ν g)) (mean 𝓛 (Meanwhile ν g))

      pub lent : m < 2 ^ 32 → ent 𝓤 (Both κ q x y x.now y.now) (H.⇛ (ex 𝓤 (λ (ν : ℕ). ex 𝓤 (Called ν))))
      lent m_fits =
          qed 𝓛 (raw (Both κ q x y x.now y.now) ∷ []) ∵ updating ! $ lft_new ! tt (λ ν. move ! (1 ∷ []) $
          use1 𝓛 (later (some (λ (g : GName × GName). Lent 𝓛 i32 κ (ν ∷ []) q x y g)))
          (lends_both 𝓛 i32 κ (ν ∷ []) q x y) $ await ! tt $ pick ! (λ g.
          split ! $ move ! (1 ∷ []) $ split ! $ move ! (3 ∷ 2 ∷ 0 ∷ []) $
          use3 𝓛 (raw ((Run mem go).pre (given_to ν g))) (goes m_fits ν g) $ at_once ! $
          show ! (λ (ν' : ℕ). ex 𝓤 (Called ν')) ν $ show ! (Called ν) g $ done !))

      abbrev Came : Val → ℕ × List ℤ × List ℤ → SProp 𝓤
      Came w z = guard 𝓤 (Told m x y w z) (Both κ q x y z.1 z.2)

      pub back : (ν : ℕ) (g : GName × GName) (w : Val) → ent 𝓤
          (sep 𝓤 ((Run mem go).post (given_to ν g) w) (mean 𝓛 (Meanwhile ν g))) (H.⇛ (ex 𝓤 (Came w)))
      back ν g w =
          qed 𝓛 (raw ((Run mem go).post (given_to ν g) w) ∷ Meanwhile ν g ∷ []) ∵ updating ! $
          use1 𝓛 (later (some (λ (n : ℕ).
          ((‵ (flft (ν ∷ []) (left full_share)) ⊛ ‵ (flft (ν ∷ []) (right full_share)) ⊛ ‵ ftrue)
          ⊛ ‵ (usize.own_val n (w ∷ [])))
          ⊛ raw (ensured 𝓛 run.ended (run.clauses 𝓛 mem go) (ν ∷ [], (ν ∷ [], tt)) (passed m x y g) tt n))))
          (id⊢ 𝓤 _) $ await ! tt $ pick ! (λ n. split ! $ move ! (1 ∷ []) $
          use1 𝓛 (some (λ (ws : Unit {0} × (List ℤ × (List ℤ × Unit {0}))).
          ‵ (lasts run.ended (ν ∷ [], (ν ∷ [], tt)) (passed m x y g) ws)
          ⊛ raw (fact 𝓤 (Ran m x.now y.now n ws.1.0 ws.1.1.0)))) (id⊢ 𝓤 _) $ pick ! (λ ws. split ! $
          move ! (1 ∷ []) $ heard ! (Ran m x.now y.now n ws.1.0 ws.1.1.0) (λ ran.
          -- [both last lists; the tokens and the number; what is kept]
          fsplit ! $ drop ! $ fsplit ! $ fsplit ! $ move ! (2 ∷ []) $ fsplit ! $ fsplit ! $ move ! (5 ∷ []) $ split ! $
          move ! (1 ∷ []) $ facts ! usize (Is usize) (shows 𝓛 usize) n (w ∷ []) (λ is. split3 ! $
          use2 𝓛 (‵ (flft (ν ∷ []) full_share)) (𝓛.lfts.lft_join (ν ∷ []) full_share) $ lft_end ! tt $
          -- [ν is dead; true; each area's last list with its length, and the borrow back; what is kept]
          move ! (2 ∷ []) $ fsplit ! $ move ! (6 ∷ []) $ fsplit ! $
          -- [the first's last list; its length; the second's; its length; ν is dead; ..; what is kept]
          keep ! (4 ∷ 9 ∷ 0 ∷ 2 ∷ []) $ group ! 4 $
          use1 𝓛 (later (raw (Both κ q x y ws.1.0 ws.1.1.0)))
          (both_back 𝓛 i32 κ (ν ∷ []) q x y g ws.1.0 ws.1.1.0) $ await ! tt $ at_once ! $
          show ! (Came w) (n, ws.1.0, ws.1.1.0) $ check ! (is, ran) $ done !))))
