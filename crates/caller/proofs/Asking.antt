-- The call of `other` by `look`, without the machine: both areas are lent to it as shared ones, and come back as they
-- were. Of the callee nothing is known but its contract.
--     Other            its contract.           given_other ν    what it binds outside, for ν
--     passed m x y     the arguments: m, and the areas as shared ones
--     Shared ν         what is kept of the areas while they are shared for ν
--     to_other         Both x' y'  ⊢ ⇛ ∃ ν. what `other` asks, for ν ∗ Shared ν
--     Answered m x y v k    `other` has returned v, which is the number k, of the areas x and y
--     other_over       what `other` leaves ∗ Shared ν  ⊢ ⇛ ∃ k. Both x' y', and Answered holds of k
-- x' and y' are the areas as `transform` leaves them, as long as those that were passed: left_first, left_second and
-- Both are in Parting.antt. The loan is in Sharing.antt; the call with the part is in Reading.antt.  Assumes `Logic`.
use Prim.Native.Nat.{ℕ, ◌<◌, ◌^◌}
use mathlib.Core.Path.{◌≡◌, refl}
use mathlib.Core.Bool.{cond}
use mathlib.Core.List.{List, [], ◌∷◌}
use lib.IntN.{ℤ}
use lib.ListN.{length}
use seplogic.Ra.Ura.{Ura}
use base.Fraction.{full_share, left, right}
use mir.Syntax.{w32}
use mir.Val.{Val}
use base.Logic.{SProp, ent, sep, ex, guard, id⊢}
use base.Fml.{Lft, Share, ftrue, flft, fdead}
use prog.Memory.{Memory}
use prog.Routine.{Routine}
use types.Logic.{Logic}
use contract.Monad.{Fun, fact}
use types.Kit.{Item, mean, ‵, raw, ◌⊛◌, some, later, ◌$◌, ◌∵◌, !, qed, move, keep, use1, use2, split, split3, join}
use types.Kit.{pick}
use types.Kit.{check, drop, fjoin, show, await, updating, now as at_once, done}
use types.Tokens.{lft_new, lft_end}
use borrow.Table.Copies.{c_s_int, Shares-copy}
use denote.Laws.{Is, shows}
use denote.Plain.{uint_Makes}
use denote.Builtin.{u32, i32}
use denote.Ref.{Bor, MutBor, as_bor}
use denote.Signed.{sint_row_laws}
use denote.Steps.{owned, facts, heard, nothing}
use denote.Triple.Spec.{triple_of}
use denote.Triple.Statement.{Contract}
use denote.Triple.Clauses.{ensured, lasts}
use Rattle.range.specs.Signed.{entry}
use Rattle.rules.specs.Areas.{in_first}
use Rattle.transform.proofs.AreasAfter.{length_first_after, length_second_after}
use Rattle.transform.proofs.Calling.{vals}
use Rattle.caller.proofs.Sharing.{Had, Shr, KeptS, shares, shared_back}
use Rattle.caller.specs.contracts.other as other
use Rattle.caller.proofs.Parting.{left_first, left_second, Both}

-- what `other` ensures of its answer k
abbrev Says : ℕ → MutBor (List ℤ) → MutBor (List ℤ) → ℤ → Type 0
Says m x y k = k ≡ cond (in_first m) (entry y.now 0) (entry x.now 0)

abbrev pub Answered : ℕ → MutBor (List ℤ) → MutBor (List ℤ) → Val → ℤ → Type 0
Answered m x y v k = Is i32 k (v ∷ []) × Says m x y k

-- what it is passed
abbrev Args : Type 0
Args = ℕ × (Bor (List ℤ) × (Bor (List ℤ) × Unit {0}))

abbrev passed : ℕ → MutBor (List ℤ) → MutBor (List ℤ) → Args
passed m x y = (m, (as_bor x, (as_bor y, tt)))

module _ (κ₀ κ₁ : Lft) (q₀ q₁ : Share) {M : Type 1} {𝓤 : Ura M} (𝓛 : Logic 𝓤) (x y : MutBor (List ℤ)) where
  abbrev pub Shared : ℕ → Item 𝓤
  Shared ν = KeptS 𝓛 i32 κ₀ (ν ∷ []) q₀ x ⊛ KeptS 𝓛 i32 κ₁ (ν ∷ []) q₁ y

module _ {M : Type 1} {𝓤 : Ura M} (𝓛 : Logic 𝓤) (mem : Memory → SProp 𝓤) (go : Routine → Fun 𝓤) where
  open 𝓛 use {H}

  abbrev pub Other : Contract 𝓤
  Other = triple_of 𝓛 other.signature (other.spec 𝓛 mem go)

  module _ (κ₀ κ₁ : Lft) (q₀ q₁ : Share) (m : ℕ) (x y : MutBor (List ℤ)) where
    abbrev x' : MutBor (List ℤ)
    x' = left_first m x y

    abbrev y' : MutBor (List ℤ)
    y' = left_second m x y

    abbrev pub given_other : ℕ → Other.Ghost
    given_other ν = (
      (
        (ν ∷ [], (ν ∷ [], tt)),
        (left full_share, (right full_share, tt)),
        tt,
        passed m x' y',
        vals m x y,
      ),
      tt,
    )

    abbrev Asked : ℕ → SProp 𝓤
    Asked ν = sep 𝓤 (Other.pre (given_other ν)) (mean 𝓛 (Shared κ₀ κ₁ q₀ q₁ 𝓛 x' y' ν))

    pub to_other : m < 2 ^ 32 → ent 𝓤 (Both κ₀ κ₁ q₀ q₁ 𝓛 x' y') (H.⇛ (ex 𝓤 Asked))
    to_other m_fits =
        qed 𝓛 (raw (Had 𝓛 i32 κ₀ q₀ x') ∷ raw (Had 𝓛 i32 κ₁ q₁ y') ∷ []) ∵ updating ! $
        lft_new ! tt (λ ν. move ! (1 ∷ 0 ∷ []) $
        use2 𝓛 (later (‵ (Shr (ν ∷ []) i32 (as_bor x') (length x.now))
        ⊛ (KeptS 𝓛 i32 κ₀ (ν ∷ []) q₀ x' ⊛ ‵ (flft (ν ∷ []) full_share))))
        (shares 𝓛 i32 κ₀ (ν ∷ []) q₀ x' (sint_row_laws w32) (Shares-copy 𝓛 (c_s_int w32) (ν ∷ [])) full_share
        (length x.now) (length_first_after m x.now y.now)) $
        await ! tt $ split ! $ move ! (1 ∷ []) $ split ! $ move ! (3 ∷ 1 ∷ []) $
        use2 𝓛 (later (‵ (Shr (ν ∷ []) i32 (as_bor y') (length y.now))
        ⊛ (KeptS 𝓛 i32 κ₁ (ν ∷ []) q₁ y' ⊛ ‵ (flft (ν ∷ []) full_share))))
        (shares 𝓛 i32 κ₁ (ν ∷ []) q₁ y' (sint_row_laws w32) (Shares-copy 𝓛 (c_s_int w32) (ν ∷ [])) full_share
        (length y.now) (length_second_after m x.now y.now)) $
        await ! tt $ split ! $ move ! (1 ∷ []) $ split ! $
        -- [what is kept of y; ν's token; y shared; what is kept of x; x shared]
        move ! (2 ∷ 0 ∷ 4 ∷ 3 ∷ 1 ∷ []) $
        -- [y shared; what is kept of it; x shared; what is kept of it; ν's token]
        nothing ! $ move ! (1 ∷ 0 ∷ []) $ fjoin ! $ move ! (2 ∷ 0 ∷ []) $ fjoin ! $
        owned ! u32 (Is u32) (uint_Makes 𝓛 w32) m _ (refl, m_fits) $ fjoin ! $
        -- [the arguments; what is kept of y, and of x; ν's token, of which each lifetime is given one half]
        move ! (3 ∷ []) $
        use1 𝓛 (‵ (flft (ν ∷ []) (left full_share)) ⊛ ‵ (flft (ν ∷ []) (right full_share)))
        (𝓛.lfts.lft_split (ν ∷ []) full_share) $ split ! $ nothing ! $ move ! (2 ∷ 0 ∷ []) $ join ! $
        move ! (1 ∷ 0 ∷ []) $ join ! $ join ! $ nothing ! $ move ! (1 ∷ 0 ∷ []) $ join ! $
        move ! (2 ∷ 1 ∷ []) $ join ! $ move ! (1 ∷ 0 ∷ []) $ at_once ! $
        show ! Asked ν $ done !)

    abbrev Returned : Val → ℤ → SProp 𝓤
    Returned v k = guard 𝓤 (Answered m x' y' v k) (Both κ₀ κ₁ q₀ q₁ 𝓛 x' y')

    pub other_over : (ν : ℕ) (v : Val) → ent 𝓤
        (sep 𝓤 (Other.post (given_other ν) v) (mean 𝓛 (Shared κ₀ κ₁ q₀ q₁ 𝓛 x' y' ν))) (H.⇛ (ex 𝓤 (Returned v)))
    other_over ν v =
        qed 𝓛 (raw (Other.post (given_other ν) v) ∷ Shared κ₀ κ₁ q₀ q₁ 𝓛 x' y' ν ∷ []) ∵ updating ! $
        use1 𝓛 (later (some (λ (k : ℤ).
        ((‵ (flft (ν ∷ []) (left full_share)) ⊛ ‵ (flft (ν ∷ []) (right full_share)) ⊛ ‵ ftrue)
        ⊛ ‵ (i32.own_val k (v ∷ [])))
        ⊛ raw (ensured 𝓛 other.ended (other.clauses 𝓛 mem go) (ν ∷ [], (ν ∷ [], tt)) (passed m x' y') tt
        k)))) (id⊢ 𝓤 _) $ await ! tt $ pick ! (λ k. split ! $ move ! (1 ∷ []) $
        use1 𝓛 (some (λ (ws : Unit {0} × (Unit {0} × (Unit {0} × Unit {0}))).
        ‵ (lasts other.ended (ν ∷ [], (ν ∷ [], tt)) (passed m x' y') ws)
        ⊛ raw (fact 𝓤 (Says m x' y' k)))) (id⊢ 𝓤 _) $ pick ! (λ ws. split ! $ drop ! $
        heard ! (Says m x' y' k) (λ e. split ! $ move ! (1 ∷ []) $
        facts ! i32 (Is i32) (shows 𝓛 i32) k (v ∷ []) (λ is. split3 ! $
        use2 𝓛 (‵ (flft (ν ∷ []) full_share)) (𝓛.lfts.lft_join (ν ∷ []) full_share) $ lft_end ! tt $
        use1 𝓛 (‵ (fdead (ν ∷ [])) ⊛ ‵ (fdead (ν ∷ []))) (𝓛.lfts.dead_dup (ν ∷ [])) $ split ! $
        -- [ν is dead, twice; true; what is kept of both]
        move ! (3 ∷ []) $ split ! $ move ! (2 ∷ 0 ∷ []) $
        use2 𝓛 (later (raw (Had 𝓛 i32 κ₀ q₀ x'))) (shared_back 𝓛 i32 κ₀ (ν ∷ []) q₀ x') $ await ! tt $
        move ! (2 ∷ 1 ∷ []) $
        use2 𝓛 (later (raw (Had 𝓛 i32 κ₁ q₁ y'))) (shared_back 𝓛 i32 κ₁ (ν ∷ []) q₁ y') $ await ! tt $
        keep ! (1 ∷ 0 ∷ []) $ at_once ! $ show ! (Returned v) k $ check ! (is, e) $ done !))))
