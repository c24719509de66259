-- The call of `transform` by `look`, without the machine, and the end of the part. What the callee asks is made of what
-- is had, and what it leaves is taken apart. Of the callee nothing is known but its contract.
--     Transform        its contract.           given_transform ν g    what it binds outside, for ν and under g
--     left_first, left_second  the areas x and y as the rules say that a transform leaves them
--     Both x y         what is had of two areas, each with its token
--     Meanwhile ν g    what is kept of them while they are lent for ν under g
--     lent             Both x y  ⊢ ⇛ ∃ ν g. what `transform` asks, for ν and under g ∗ Meanwhile ν g
--     Handing ν w r    `transform` has returned w, which is the part r
--     Known g          what is known of the areas at last, while they are lent under g
--     parted           what `transform` leaves  ⊢ ⇛ ∃ r. the part r, shared for ν, with all of ν's token ∗ Known g
--     over             [ν] ∗ Known g ∗ Meanwhile ν g  ⊢ ⇛ Both left_first left_second: the part is over, and both areas
--                      are back, whole
-- The other calls of `look` are in Reading.antt and Asking.antt, its entry and exit in Edges.antt.  Assumes `Logic`.
use Prim.Native.Nat.{ℕ, ◌<◌, ◌^◌}
use mathlib.Core.Path.{◌≡◌, refl}
use mathlib.Core.List.{List, [], ◌∷◌}
use lib.IntN.{ℤ}
use lib.ListN.{length}
use seplogic.Ra.Ura.{Ura}
use base.Fraction.{full_share}
use mir.Syntax.{erased, w32}
use mir.Val.{Val}
use base.Logic.{SProp, ent, sep, ex, guard, id⊢}
use base.Fml.{Lft, GName, Share, Fml, ftrue, flft, fdead}
use prog.Memory.{Memory}
use prog.Routine.{Routine}
use types.Logic.{Logic, sem}
use contract.Monad.{Fun, fact}
use types.Kit.{Item, mean, ‵, raw, given, ◌⊛◌, some, later, ◌$◌, ◌∵◌, !, qed, move, keep, use1, use3, rewrite, split}
use types.Kit.{join}
use types.Kit.{pick, learn, check, drop, fsplit, fjoin, show, await, updating, now as at_once, done}
use types.Tokens.{lft_new, lft_end}
use denote.Laws.{Is, shows}
use denote.Plain.{uint_Makes}
use denote.Builtin.{u32, i32}
use denote.Ref.{Bor, MutBor, at_last}
use denote.Slice.{ShrSlice}
use denote.Steps.{owned, peeks, heard, nothing}
use denote.Triple.Spec.{triple_of}
use denote.Triple.Statement.{Contract}
use denote.Triple.Clauses.{ensured, lasts}
use Rattle.rules.specs.Areas.{first_after, second_after, part_of}
use Rattle.transform.specs.Transformed.{Handed, AtLast}
use Rattle.transform.proofs.Again.{Own, under, Kept_of, lends, backs}
use Rattle.transform.proofs.Calling.{vals, passed}
use Rattle.transform.specs.contracts.transform as transform
use Rattle.caller.proofs.Sharing.{Had, HadShr}

module _ (m : ℕ) (x y : MutBor (List ℤ)) where
  abbrev pub left_first : MutBor (List ℤ)
  left_first = at_last x (first_after m x.now y.now)

  abbrev pub left_second : MutBor (List ℤ)
  left_second = at_last y (second_after m x.now y.now)

  -- what is known of the areas at last, while they are lent under g
  abbrev pub Known : GName × GName → Fml
  Known g = AtLast m (under x g.0) (under y g.1)

  -- `transform` has returned w, which is the part r, shared for ν
  abbrev pub Handing : ℕ → Val → Bor (List ℤ) → Type 0
  Handing ν w r = Is (ShrSlice erased (ν ∷ []) i32) r (w ∷ []) × (r.now ≡ part_of m x.now y.now)

module _ (κ₀ κ₁ : Lft) (q₀ q₁ : Share) {M : Type 1} {𝓤 : Ura M} (𝓛 : Logic 𝓤) (x y : MutBor (List ℤ)) where
  -- what is kept of the areas x and y while they are lent for ν under g
  abbrev pub Meanwhile : ℕ → GName × GName → Item 𝓤
  Meanwhile ν g = Kept_of 𝓛 i32 κ₀ (ν ∷ []) q₀ x g.0 ⊛ Kept_of 𝓛 i32 κ₁ (ν ∷ []) q₁ y g.1

  abbrev pub Both : SProp 𝓤
  Both = sep 𝓤 (Had 𝓛 i32 κ₀ q₀ x) (Had 𝓛 i32 κ₁ q₁ y)

module _ {M : Type 1} {𝓤 : Ura M} (𝓛 : Logic 𝓤) (mem : Memory → SProp 𝓤) (go : Routine → Fun 𝓤) where
  open 𝓛 use {H, A}

  abbrev pub Transform : Contract 𝓤
  Transform = triple_of 𝓛 transform.signature (transform.spec 𝓛 mem go)

  abbrev ◌∗◌ : SProp 𝓤 → SProp 𝓤 → SProp 𝓤
  P ∗ Q = sep 𝓤 P Q

  abbrev ⟦◌⟧ : Fml → SProp 𝓤
  ⟦ P ⟧ = sem 𝓛 P

  infixr 35 ◌∗◌
  module _ (κ₀ κ₁ : Lft) (q₀ q₁ : Share) (m : ℕ) (x y : MutBor (List ℤ)) where
    abbrev pub given_transform : ℕ → GName × GName → Transform.Ghost
    given_transform ν g = (((ν ∷ [], tt), (full_share, tt), tt, passed m x y g, vals m x y), tt)

    goes : m < 2 ^ 32 → (ν : ℕ) (g : GName × GName) → ent 𝓤
        (A.lft (ν ∷ []) full_share ∗ ⟦ Own (ν ∷ []) i32 (under x g.0) ⟧ ∗ ⟦ Own (ν ∷ []) i32 (under y g.1) ⟧)
        (Transform.pre (given_transform ν g))
    goes m_fits ν g =
        qed 𝓛 (‵ (flft (ν ∷ []) full_share) ∷ ‵ (Own (ν ∷ []) i32 (under x g.0)) ∷
        ‵ (Own (ν ∷ []) i32 (under y g.1)) ∷ []) ∵
        nothing ! $ move ! (1 ∷ 0 ∷ []) $ join ! $ nothing ! $ move ! (3 ∷ 0 ∷ []) $ fjoin ! $ move ! (2 ∷ 0 ∷ []) $
        fjoin ! $ owned ! u32 (Is u32) (uint_Makes 𝓛 w32) m _ (refl, m_fits) $ fjoin ! $ move ! (1 ∷ 0 ∷ []) $
        join ! $ nothing ! $ move ! (1 ∷ 0 ∷ []) $ done !

    abbrev Lent : ℕ → GName × GName → SProp 𝓤
    Lent ν g = Transform.pre (given_transform ν g) ∗ mean 𝓛 (Meanwhile κ₀ κ₁ q₀ q₁ 𝓛 x y ν g)

    pub lent : m < 2 ^ 32 → ent 𝓤 (Both κ₀ κ₁ q₀ q₁ 𝓛 x y) (H.⇛ (ex 𝓤 (λ (ν : ℕ). ex 𝓤 (Lent ν))))
    lent m_fits =
        qed 𝓛 (raw (Had 𝓛 i32 κ₀ q₀ x) ∷ raw (Had 𝓛 i32 κ₁ q₁ y) ∷ []) ∵ updating ! $
        lft_new ! tt (λ ν. move ! (1 ∷ []) $
        use1 𝓛 (later (some (λ (γ : GName).
        ‵ (Own (ν ∷ []) i32 (under x γ)) ⊛ Kept_of 𝓛 i32 κ₀ (ν ∷ []) q₀ x γ)))
        (lends 𝓛 i32 κ₀ (ν ∷ []) q₀ x) $ await ! tt $ pick ! (λ γ. split ! $ move ! (3 ∷ []) $
        use1 𝓛 (later (some (λ (δ : GName).
        ‵ (Own (ν ∷ []) i32 (under y δ)) ⊛ Kept_of 𝓛 i32 κ₁ (ν ∷ []) q₁ y δ)))
        (lends 𝓛 i32 κ₁ (ν ∷ []) q₁ y) $ await ! tt $ pick ! (λ δ. split ! $
        -- [y at ν; what is kept of it; x at ν; what is kept of it; ν's token]
        move ! (4 ∷ 2 ∷ 0 ∷ []) $
        use3 𝓛 (raw (Transform.pre (given_transform ν (γ, δ)))) (goes m_fits ν (γ, δ)) $ move ! (2 ∷ 1 ∷ []) $
        join ! $ move ! (1 ∷ 0 ∷ []) $ at_once ! $
        show ! (λ (ν' : ℕ). ex 𝓤 (Lent ν')) ν $ show ! (Lent ν) (γ, δ) $ done !)))

    abbrev Parted : ℕ → GName × GName → Val → Bor (List ℤ) → SProp 𝓤
    Parted ν g w r = guard 𝓤 (Handing m x y ν w r) (HadShr 𝓛 i32 (ν ∷ []) full_share r ∗ ⟦ Known m x y g ⟧)

    pub parted : (ν : ℕ) (g : GName × GName) (w : Val) → ent 𝓤 (Transform.post (given_transform ν g) w)
        (H.⇛ (ex 𝓤 (Parted ν g w)))
    parted ν g w =
        qed 𝓛 (raw (Transform.post (given_transform ν g) w) ∷ []) ∵ updating ! $
        use1 𝓛 (later (some (λ (r : Bor (List ℤ)).
        ((‵ (flft (ν ∷ []) full_share) ⊛ ‵ ftrue) ⊛ ‵ ((ShrSlice erased (ν ∷ []) i32).own_val r (w ∷ [])))
        ⊛ raw (ensured 𝓛 transform.ended (transform.clauses 𝓛 mem go) (ν ∷ [], tt) (passed m x y g) tt r))))
        (id⊢ 𝓤 _) $ await ! tt $ pick ! (λ r. split ! $ move ! (1 ∷ []) $
        use1 𝓛 (some (λ (ws : Unit {0} × (Unit {0} × (Unit {0} × Unit {0}))).
        ‵ (lasts transform.ended (ν ∷ [], tt) (passed m x y g) ws)
        ⊛ (‵ (Known m x y g) ⊛ raw (fact 𝓤 (Handed m (under x g.0) (under y g.1) r))))) (id⊢ 𝓤 _) $ pick ! (λ ws.
        split ! $ drop ! $ split ! $ move ! (1 ∷ []) $ heard ! (Handed m (under x g.0) (under y g.1) r) (λ handed.
        move ! (1 ∷ []) $ split ! $ move ! (1 ∷ []) $
        peeks ! (ShrSlice erased (ν ∷ []) i32) (Is (ShrSlice erased (ν ∷ []) i32))
        (shows 𝓛 (ShrSlice erased (ν ∷ []) i32)) r (w ∷ []) (λ is.
        rewrite ! 0 (λ (vs : List Val). ‵ ((ShrSlice erased (ν ∷ []) i32).own_val r vs)) is.0.0 refl $
        move ! (1 ∷ []) $ split ! $
        -- [ν's token; true; the part; what is known]
        move ! (2 ∷ 0 ∷ []) $ join ! $ keep ! (0 ∷ 2 ∷ []) $ at_once ! $ show ! (Parted ν g w) r $
        check ! (is, handed.contents) $ done !))))

    -- the part is over
    abbrev x' : MutBor (List ℤ)
    x' = left_first m x y

    abbrev y' : MutBor (List ℤ)
    y' = left_second m x y

    pub over : (ν : ℕ) (g : GName × GName) → ent 𝓤
        (A.lft (ν ∷ []) full_share ∗ ⟦ Known m x y g ⟧ ∗ mean 𝓛 (Meanwhile κ₀ κ₁ q₀ q₁ 𝓛 x y ν g))
        (H.⇛ (Both κ₀ κ₁ q₀ q₁ 𝓛 x' y'))
    over ν g =
        qed 𝓛 (‵ (flft (ν ∷ []) full_share) ∷ ‵ (Known m x y g) ∷ Meanwhile κ₀ κ₁ q₀ q₁ 𝓛 x y ν g ∷ []) ∵
        updating ! $ lft_end ! tt $
        use1 𝓛 (‵ (fdead (ν ∷ [])) ⊛ ‵ (fdead (ν ∷ []))) (𝓛.lfts.dead_dup (ν ∷ [])) $ split ! $
        move ! (2 ∷ []) $ fsplit ! $ move ! (4 ∷ []) $ split ! $
        -- [what is kept of x, and of y; the last lists of x, and of y; ν is dead, twice]
        move ! (4 ∷ 0 ∷ 2 ∷ []) $
        use3 𝓛 (later (given (length x'.now ≡ length x.now) (raw (Had 𝓛 i32 κ₀ q₀ x'))))
        (backs 𝓛 i32 κ₀ (ν ∷ []) q₀ x g.0 x'.now) $ await ! tt $ learn ! (λ _. move ! (3 ∷ 1 ∷ 2 ∷ []) $
        use3 𝓛 (later (given (length y'.now ≡ length y.now) (raw (Had 𝓛 i32 κ₁ q₁ y'))))
        (backs 𝓛 i32 κ₁ (ν ∷ []) q₁ y g.1 y'.now) $ await ! tt $ learn ! (λ _. move ! (1 ∷ 0 ∷ []) $
        at_once ! $ done !))
