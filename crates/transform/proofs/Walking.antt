-- Steps of a walk that the kit's rules (types.Kit, types.Run, types.Part) give in more than one, and a test that fails.
--     to_end           the head of the context goes behind all the rest
--     becomes          a local's value is written as one that it equals
--     copies           an operand that is a local
--     fronts           `p = &x.0.*;  t = {p, c}`, as the front end writes `&x[..c]`
--     reborrows        `p = &x.0.*;  t = {p, x.1}`, as it writes the reborrow of a slice x
--     leaves_if        `if c { .. return .. }` and the rest: the arm runs, or the rest does
--     allocates        all the locals are allocated: they stand in turn, two entries each, behind the context
--     free_held        the first local is freed, whatever it holds
--     frees_held n     the first n locals are freed, whatever they hold. The values, which it is given as `_`, antt
--                      reads off the context
--     differs          two numbers that a test of equality tells apart
--     sized            a slice's machine value is one of its local's type where its count fits
-- A position n of the context comes with a proof of what stands there, which is `refl`.
-- Assumes `Logic`.
use Prim.Native.Nat.{ℕ, zero, suc, ◌+◌, ◌<◌, ◌^◌}
use mathlib.Core.Path.{◌≡◌, refl, sym, ap, subst}
use mathlib.Core.Logic.{◌≢◌}
use mathlib.Core.Bool.{Bool, not}
use mathlib.Core.Option.{some}
use mathlib.Core.List.{List, [], ◌∷◌, ◌++◌}
use lib.Dec.{T, eqb, eqb_refl, T_not}
use lib.ListN.{drop}
use seplogic.Ra.Ura.{Ura}
use base.Fraction.{full_share}
use mir.Syntax.{Ty, w64, Opd as Operand, copy, place, field, deref, addr_of, aggregate, Body, seq, assign, cond, skip}
use mir.Syntax.{Local, local}
use mir.Val.{Val, Fits, vbool, vint, vptr}
use base.Logic.{sep, via, comm∗}
use base.Fml.{Share, fat, froom, fdies}
use prog.Memory.{field_of}
use prog.Wp.{Env, spot_of, Calls, Loops, Wp, after_seq}
use types.Logic.{Logic}
use types.Kit.{Item, ‵, mean, ⋆, nth, put, pop, ++⊢, Post, any_q, post, Goal, runs, allocs, frees, Seq, Step}
use types.Kit.{step, ◌$◌, rewrite}
use types.Run.{Reads, Writes, Opd, look, stop, hop, fld, from, load, addr, assigns, first, branches, skips, and_then}
use types.Run.{no_more, forget, alloc1, alloc0, free1}
use types.Part.{Part, whole, sub, look_in, agg}
use denote.Slice.{slice_ty, slice_val}

pub differs : (a b : ℕ) → T (not (eqb a b)) → a ≢ b
differs a b h e = T_not (eqb a b) h (subst (λ (k : ℕ). T (eqb a k)) e (eqb_refl a))

pub sized : {n : ℕ} → n < 2 ^ 64 → Unit {0} × (Unit {0} × (Fits w64 n × Unit {0}))
sized l = (tt, (tt, (record { fits = l }, tt)))

-- the first n locals of a frame, where they hold the values vs, in front of a context
abbrev Vals : ℕ → Type 0
Vals zero = Unit
Vals (suc n) = Val × Vals n

abbrev held : {M : Type 1} {𝓤 : Ura M} (n : ℕ) → Vals n → List (Ty × ℕ) → List (Item 𝓤) → List (Item 𝓤)
held zero vs E Γ = Γ
held (suc n) vs [] Γ = Γ
held (suc n) vs (e ∷ E) Γ =
    ‵ (fat full_share e.0 e.1 0 vs.0) ∷ ‵ (fdies e.0 e.1) ∷ held n vs.1 E Γ

-- a block for each of a function's locals: the frame that they make, and their room behind a context
abbrev Blocks : List Local → Type 0
Blocks [] = Unit
Blocks (local τ h ∷ ls) = ℕ × Blocks ls

abbrev frame : (ls : List Local) → Blocks ls → List (Ty × ℕ)
frame [] bs = []
frame (local τ h ∷ ls) bs = (τ, bs.0) ∷ frame ls bs.1

abbrev rooms : {M : Type 1} {𝓤 : Ura M} (ls : List Local) → Blocks ls → List (Item 𝓤) → List (Item 𝓤)
rooms [] bs Γ = Γ
rooms (local τ h ∷ ls) bs Γ = rooms ls bs.1 ((Γ ++ (‵ (froom τ bs.0 0) ∷ [])) ++ (‵ (fdies τ bs.0) ∷ []))

module _ {M : Type 1} {𝓤 : Ura M} {𝓛 : Logic 𝓤} {K : Type 0} where
  -- an entry that is a cell has that cell within it
  open 𝓛 use {H}

  cell : K → {i : Item 𝓤} {q : Share} {τ : Ty} {b : ℕ} {v : Val} → i ≡ ‵ (fat q τ b 0 v) →
      Part K 𝓛 i q τ b 0 v (λ u. ‵ (fat q τ b 0 u))
  cell k {i} {q} {τ} {b} {v} e =
      subst (λ (j : Item 𝓤). Part K 𝓛 j q τ b 0 v (λ u. ‵ (fat q τ b 0 u))) (sym e) (whole k)

  module _ {Γ : List (Item 𝓤)} where
    pub to_end : K → {i : Item 𝓤} {G : Goal 𝓤 H} → Step K 𝓛 (Γ ++ (i ∷ [])) G (i ∷ Γ) G
    to_end k {i} = step (λ s. record {
      prf =
          via 𝓤 (sep 𝓤 (mean 𝓛 i) (⋆ 𝓛 Γ)) (pop 𝓛 i Γ)
          (via 𝓤 (sep 𝓤 (⋆ 𝓛 Γ) (mean 𝓛 i)) (comm∗ 𝓤 (mean 𝓛 i) (⋆ 𝓛 Γ))
          (via 𝓤 (⋆ 𝓛 (Γ ++ (i ∷ []))) (++⊢ 𝓛 Γ (i ∷ [])) s.prf));
    })

    pub becomes : K → (n : ℕ) {τ : Ty} {b : ℕ} {v w : Val} {G : Goal 𝓤 H} →
        nth 𝓛 n Γ ≡ ‵ (fat full_share τ b 0 v) → v ≡ w →
        Step K 𝓛 (put 𝓛 n (‵ (fat full_share τ b 0 w)) Γ) G Γ G
    becomes k n {τ} {b} e f = rewrite k n (λ (u : Val). ‵ (fat full_share τ b 0 u)) f e

  module _ {Γ : List (Item 𝓤)} {E : Env 𝓤 H} where
    pub copies : K → (n : ℕ) {i : ℕ} {q : Share} {v : Val} →
        nth 𝓛 n Γ ≡ ‵ (fat q (spot_of 𝓤 H E i).0 (spot_of 𝓤 H E i).1 0 v) → Opd K 𝓛 Γ E (copy (place i [])) v
    copies k n e = load k (from k (stop k)) (look k n e)

    module _ {C : Calls 𝓤 H} {Λ : Loops 𝓤 H} {q : Post 𝓤 H} where
      pub fronts : K → {x p t : ℕ} {τ ρ : Ty} {c : Operand} {rest : Body} {d b o n : ℕ} {Γ₁ Γ₂ : List (Item 𝓤)} →
          field_of (spot_of 𝓤 H E x).0 0 ≡ some (ρ, d) → Reads K 𝓛 Γ ρ (spot_of 𝓤 H E x).1 (0 + d) (vptr b o) →
          Writes K 𝓛 Γ (spot_of 𝓤 H E p).0 (spot_of 𝓤 H E p).1 0 (vptr b o) Γ₁ →
          Opd K 𝓛 Γ₁ E (copy (place p [])) (vptr b o) → Opd K 𝓛 Γ₁ E c (vint w64 n) →
          Writes K 𝓛 Γ₁ (spot_of 𝓤 H E t).0 (spot_of 𝓤 H E t).1 0 (slice_val (b, o) n) Γ₂ →
          Step K 𝓛 Γ₂ (runs C Λ E rest q) Γ
          (runs C Λ E (seq (assign (place p []) (addr_of (place x (field 0 ∷ deref τ ∷ []))))
          (seq (assign (place t []) (aggregate (copy (place p []) ∷ c ∷ []))) rest)) q)
      fronts k e reads w ptr count w' = step (λ s.
          assigns k (addr k (from k (fld k e (hop k reads (stop k))))) (from k (stop k)) w $
          assigns k (agg k (and_then k ptr (and_then k count (no_more k)))) (from k (stop k)) w' $ s)

      pub reborrows : K → {x p t : ℕ} {τ ρ : Ty} {rest : Body} {b o n : ℕ} {q₁ q₂ : Share} {Γ₁ Γ₂ : List (Item 𝓤)} →
          (spot_of 𝓤 H E x).0 ≡ slice_ty ρ → (i : ℕ) →
          nth 𝓛 i Γ ≡ ‵ (fat q₁ (slice_ty ρ) (spot_of 𝓤 H E x).1 0 (slice_val (b, o) n)) →
          Writes K 𝓛 Γ (spot_of 𝓤 H E p).0 (spot_of 𝓤 H E p).1 0 (vptr b o) Γ₁ →
          Opd K 𝓛 Γ₁ E (copy (place p [])) (vptr b o) →
          nth 𝓛 i Γ₁ ≡ ‵ (fat q₂ (slice_ty ρ) (spot_of 𝓤 H E x).1 0 (slice_val (b, o) n)) →
          Writes K 𝓛 Γ₁ (spot_of 𝓤 H E t).0 (spot_of 𝓤 H E t).1 0 (slice_val (b, o) n) Γ₂ →
          Step K 𝓛 Γ₂ (runs C Λ E rest q) Γ
          (runs C Λ E (seq (assign (place p []) (addr_of (place x (field 0 ∷ deref τ ∷ []))))
          (seq (assign (place t []) (aggregate (copy (place p []) ∷ copy (place x (field 1 ∷ [])) ∷ []))) rest)) q)
      reborrows k e i e₁ w ptr e₂ w' =
          fronts k (ap (λ (σ : Ty). field_of σ 0) e) (look_in k i (sub k 0 refl (cell k e₁))) w ptr
          (load k (from k (fld k (ap (λ (σ : Ty). field_of σ 1) e) (stop k)))
          (look_in k i (sub k 1 refl (cell k e₂)))) w'

    pub leaves_if : K → {C : Calls 𝓤 H} {Λ : Loops 𝓤 H} {q : Post 𝓤 H} {c : Operand} {a b : Body} {y : Bool} →
        Opd K 𝓛 Γ E c (vbool y) →
        (T y → Seq K 𝓛 Γ (runs C Λ E a (any_q (after_seq 𝓤 H (Wp 𝓤 H C Λ E b (post 𝓤 H q)) (post 𝓤 H q))))) →
        (T (not y) → Seq K 𝓛 Γ (runs C Λ E b q)) → Seq K 𝓛 Γ (runs C Λ E (seq (cond c a skip) b) q)
    leaves_if k o held failed = first k $ branches k o held (λ no. skips k $ record { prf = (failed no).prf })

    pub free_held : K → {τ : Ty} {b : ℕ} {v : Val} {g : Goal 𝓤 H} →
        Step K 𝓛 Γ (frees E g) (‵ (fat full_share τ b 0 v) ∷ ‵ (fdies τ b) ∷ Γ) (frees ((τ, b) ∷ E) g)
    free_held k = step (λ s. forget k 0 refl $ free1 k $ s)

  -- the first n locals are freed, where they hold the values vs
  held_freed : K → (n : ℕ) (vs : Vals n) (E : Env 𝓤 H) (Γ : List (Item 𝓤)) {g : Goal 𝓤 H} →
      Step K 𝓛 Γ (frees (drop n E) g) (held n vs E Γ) (frees E g)
  held_freed k zero vs E Γ = step (λ s. s)
  held_freed k (suc n) vs [] Γ = step (λ s. s)
  held_freed k (suc n) vs (e ∷ E) Γ = step (λ s. free_held k $ held_freed k n vs.1 E Γ $ s)

  -- the same, of a context that begins with them
  pub frees_held : K → (n : ℕ) (vs : Vals n) {E : Env 𝓤 H} {Γ : List (Item 𝓤)} {g : Goal 𝓤 H} →
      held n vs E (drop (n + n) Γ) ≡ Γ → Step K 𝓛 (drop (n + n) Γ) (frees (drop n E) g) Γ (frees E g)
  frees_held k n vs {E} {Γ} {g} e =
      subst (λ (Δ : List (Item 𝓤)). Step K 𝓛 (drop (n + n) Γ) (frees (drop n E) g) Δ (frees E g)) e
      (held_freed k n vs E (drop (n + n) Γ))

  -- the locals ls are allocated, one after the other, each behind those before it
  all_allocated : K → (ls : List Local) {Γ : List (Item 𝓤)} {Kt : Env 𝓤 H → Goal 𝓤 H} →
      ((bs : Blocks ls) → Seq K 𝓛 (rooms ls bs Γ) (Kt (frame ls bs))) → Seq K 𝓛 Γ (allocs ls Kt)
  all_allocated k [] f = alloc0 k $ f tt
  all_allocated k (local τ h ∷ ls) f =
      alloc1 k (λ b. to_end k $ to_end k $ all_allocated k ls (λ bs. f (b, bs)))

  -- the same, of the locals that the goal tells
  pub allocates : K → {ls : List Local} {Γ : List (Item 𝓤)} {Kt : Env 𝓤 H → Goal 𝓤 H} →
      ((bs : Blocks ls) → Seq K 𝓛 (rooms ls bs Γ) (Kt (frame ls bs))) → Seq K 𝓛 Γ (allocs ls Kt)
  allocates k {ls} f = all_allocated k ls f
