-- THE LAW of links: a path is determined by its links, also where they are known only modulo 2.
-- In order: a number with a neighbour on either side is linked to two; what is linked to one alone is an end;
-- equal heads and equal links make equal lists; lists with equal links have the same ends; the law.
-- Not here: the links of one pair (LinkedPairs), which lists are paths (Members).  Assumes nothing.
use Prim.Native.Nat.{ℕ, ◌*◌, ◌%◌, ◌≤◌, ◌<◌}
use native.Mathlib.Decide.{dec_le, dec_lt}
use native.Mathlib.Omega.{arith}
use mathlib.Core.Path.{◌≡◌, refl, sym, ◌∙◌}
use mathlib.Core.Logic.{◌≢◌, ◌⊎◌, inl, inr}
use mathlib.Core.List.Memᴰ
use mathlib.Core.List.{List, [], ◌∷◌, Memᴰ}
use lib.ListN.{length}
use Rattle.rules.specs.Path.{IsPath, head_of, last_of, times}
use Rattle.rules.specs.Word.{links}
use Rattle.paths.proofs.Times.{Distinct, times_here, times_tail_le, mem_of_times, distinct_tail, distinct_head}
use Rattle.paths.proofs.Members.{is_path_is_order, is_path_within, is_path_unique}
unfoldable pub use Rattle.paths.proofs.LinkedPairs.{on_pair}
use Rattle.paths.proofs.LinkedPairs.{on_pair_left, on_pair_right, links_swap, links_tail_le}
use Rattle.paths.proofs.LinkedPairs.{links_absent, links_pair_le, second_other, links_first, links_head}

-- in q, x is linked to no number but y
abbrev OneLink : ℕ → ℕ → List ℕ → Type 0
OneLink x y q = (b : ℕ) → b ≢ x → 1 ≤ links (on_pair x b) q → b ≡ y

one_link_tail : (x y z : ℕ) (q : List ℕ) → OneLink x y (z ∷ q) → OneLink x y q
one_link_tail x y z q o b n h = o b n (omega (arith, links_tail_le (on_pair x b) z q))

third_other : (z w v : ℕ) (r : List ℕ) → Distinct (z ∷ (w ∷ (v ∷ r))) → z ≢ v
third_other z w v r d e =
    omega (arith, distinct_head z (w ∷ (v ∷ r)) d, times_tail_le z w (v ∷ r), times_here z v r (sym e))

-- a number that stands between two others is linked to both
not_inner : (x y z v : ℕ) (r : List ℕ) → Distinct (z ∷ (x ∷ (v ∷ r))) → OneLink x y (z ∷ (x ∷ (v ∷ r))) → ⊥
not_inner x y z v r d o = third_other z x v r d (before ∙ sym after)
  where
    before : z ≡ y
    before =
        o z (second_other z x (v ∷ r) d)
        (links_first x z z x (v ∷ r) (on_pair_right x z z refl) (on_pair_left x z x refl))

    after : v ≡ y
    after =
        one_link_tail x y z (x ∷ (v ∷ r)) o v
        (λ e. second_other x v r (distinct_tail z (x ∷ (v ∷ r)) d) (sym e))
        (links_first x v x v r (on_pair_left x v x refl) (on_pair_right x v v refl))

-- what is linked to one number alone is an end
end_of_one : (q : List ℕ) (x y : ℕ) → Distinct q → Memᴰ x q → OneLink x y q → (x ≡ head_of q) ⊎ (x ≡ last_of q)
end_of_one [] x y d i o = absurd (Memᴰ.not-nil i)
end_of_one (z ∷ []) x y d i o = inl (Memᴰ.eq_of_singleton i)
end_of_one (z ∷ (w ∷ [])) x y d i o = at (Memᴰ.cases_cons i)
  where
    at : (x ≡ z) ⊎ Memᴰ x (w ∷ []) → (x ≡ z) ⊎ (x ≡ w)
    at (inl e) = inl e
    at (inr j) = inr (Memᴰ.eq_of_singleton j)
end_of_one (z ∷ (w ∷ (v ∷ r))) x y d i o =
    at (Memᴰ.cases_cons i)
    (λ j. end_of_one (w ∷ (v ∷ r)) x y (distinct_tail z (w ∷ (v ∷ r)) d) j (one_link_tail x y z (w ∷ (v ∷ r)) o))
  where
    past : (x ≡ w) ⊎ (x ≡ last_of (v ∷ r)) → (x ≡ z) ⊎ (x ≡ last_of (v ∷ r))
    past (inl e) = absurd (not_inner w y z v r d (rw e at o))
    past (inr e) = inr e

    at : (x ≡ z) ⊎ Memᴰ x (w ∷ (v ∷ r)) → (Memᴰ x (w ∷ (v ∷ r)) → (x ≡ w) ⊎ (x ≡ last_of (v ∷ r))) →
        (x ≡ z) ⊎ (x ≡ last_of (v ∷ r))
    at (inl e) f = inl e
    at (inr j) f = past (f j)

-- the same pairs are linked
abbrev SameLinks : List ℕ → List ℕ → Type 0
SameLinks p q = (a b : ℕ) → a ≢ b → links (on_pair a b) p ≡ links (on_pair a b) q

-- two lists that begin alike and have the same links go on alike, and their rests have the same links
module _ (x v y w : ℕ) (p q : List ℕ) (d : Distinct (x ∷ (v ∷ p))) (e : Distinct (y ∷ (w ∷ q))) (h : x ≡ y)
    (s : SameLinks (x ∷ (v ∷ p)) (y ∷ (w ∷ q))) where
  same_second : v ≡ w
  same_second =
      let linked : 1 ≤ links (on_pair x v) (y ∷ (w ∷ q)) =
      omega (
        arith,
        s x v (second_other x v p d),
        links_first x v x v p (on_pair_left x v x refl) (on_pair_right x v v refl),
      ) in
      links_head y w v q e (rw h at linked)

  same_rest : SameLinks (v ∷ p) (w ∷ q)
  unfolding links
  same_rest a b n =
      let f : on_pair a b x * on_pair a b v ≡ on_pair a b y * on_pair a b w = rw (h, same_second) in
      omega (arith, s a b n)

equal_of_links : (p q : List ℕ) → Distinct p → Distinct q → length p ≡ length q → head_of p ≡ head_of q →
    SameLinks p q → p ≡ q
unfolding links
equal_of_links [] [] d e l h s = refl
equal_of_links [] (y ∷ q) d e l h s = absurd (omega arith)
equal_of_links (x ∷ p) [] d e l h s = absurd (omega arith)
equal_of_links (x ∷ []) (y ∷ []) d e l h s = cc
equal_of_links (x ∷ []) (y ∷ (w ∷ q)) d e l h s = absurd (omega arith)
equal_of_links (x ∷ (v ∷ p)) (y ∷ []) d e l h s = absurd (omega arith)
equal_of_links (x ∷ (v ∷ p)) (y ∷ (w ∷ q)) d e l h s =
    let t : v ∷ p ≡ w ∷ q =
    equal_of_links (v ∷ p) (w ∷ q) (distinct_tail x (v ∷ p) d) (distinct_tail y (w ∷ q) e) (omega arith)
    (same_second x v y w p q d e h s) (same_rest x v y w p q d e h s) in
    cc

-- the head of p is an end of q
head_is_end : (p q : List ℕ) → Distinct p → Distinct q → head_of p < last_of p → ((k : ℕ) → times k p ≡ times k q) →
    SameLinks p q → (head_of p ≡ head_of q) ⊎ (head_of p ≡ last_of q)
head_is_end [] q d e h t s = absurd (omega arith)
head_is_end (x ∷ []) q d e h t s = absurd (omega arith)
head_is_end (x ∷ (y ∷ p)) q d e h t s =
    end_of_one q x y e (mem_of_times x q (omega (arith, t x, times_here x x (y ∷ p) refl)))
    (λ b n l. links_head x y b p d (omega (arith, s x b (λ f. n (sym f)))))

same_head : (p q : List ℕ) → Distinct p → Distinct q → head_of p < last_of p → head_of q < last_of q →
    ((k : ℕ) → times k p ≡ times k q) → SameLinks p q → head_of p ≡ head_of q
same_head p q d e h l t s =
    at (head_is_end p q d e h t s) (head_is_end q p e d l (λ k. sym (t k)) (λ a b n. sym (s a b n)))
  where
    at : (head_of p ≡ head_of q) ⊎ (head_of p ≡ last_of q) → (head_of q ≡ head_of p) ⊎ (head_of q ≡ last_of p) →
        head_of p ≡ head_of q
    at (inl f) g = f
    at (inr f) (inl g) = sym g
    at (inr f) (inr g) = absurd (omega arith)

module _ (m : ℕ) (p q : List ℕ) (r : IsPath m p) (t : IsPath m q)
    (c : (a b : ℕ) → 1 ≤ a → a < b → b ≤ m → links (on_pair a b) p % 2 ≡ links (on_pair a b) q % 2) where
  same_times : (k : ℕ) → times k p ≡ times k q
  same_times k = (is_path_is_order m p r).same k ∙ sym ((is_path_is_order m q t).same k)

  links_same_lt : (a b : ℕ) → 1 ≤ a → a < b → b ≤ m → links (on_pair a b) p ≡ links (on_pair a b) q
  links_same_lt a b i j k =
      omega (arith, c a b i j k, links_pair_le a b p (is_path_unique m p r), links_pair_le a b q (is_path_unique m q t))

  links_same_absent : (a b : ℕ) → times a p ≡ 0 → links (on_pair a b) p ≡ links (on_pair a b) q
  links_same_absent a b z =
      links_absent a b p (is_path_unique m p r) z
      ∙ sym (links_absent a b q (is_path_unique m q t) (sym (same_times a) ∙ z))

  links_same_in : (a b : ℕ) → a ≢ b → 1 ≤ times a p → 1 ≤ times b p → links (on_pair a b) p ≡ links (on_pair a b) q
  links_same_in a b n i j = at (dec_lt a b) (range a i) (range b j)
    where
      range : (k : ℕ) → 1 ≤ times k p → (1 ≤ k) × (k ≤ m)
      range k h = is_path_within m p r k (mem_of_times k p h)

      at : Dec (a < b) → (1 ≤ a) × (a ≤ m) → (1 ≤ b) × (b ≤ m) → links (on_pair a b) p ≡ links (on_pair a b) q
      at (yes l) u v = links_same_lt a b u.0 l v.1
      at (no k) u v = links_swap a b p ∙ links_same_lt b a v.0 (omega arith) u.1 ∙ links_swap b a q

  links_same : SameLinks p q
  links_same a b n = at (dec_le 1 (times a p)) (dec_le 1 (times b p))
    where
      at : Dec (1 ≤ times a p) → Dec (1 ≤ times b p) → links (on_pair a b) p ≡ links (on_pair a b) q
      at (yes i) (yes j) = links_same_in a b n i j
      at (no i) e = links_same_absent a b (omega arith)
      at (yes i) (no j) = links_swap a b p ∙ links_same_absent b a (omega arith) ∙ links_swap b a q

pub path_of_links : (m : ℕ) (p q : List ℕ) → IsPath m p → IsPath m q →
    ((a b : ℕ) → 1 ≤ a → a < b → b ≤ m → links (on_pair a b) p % 2 ≡ links (on_pair a b) q % 2) → p ≡ q
path_of_links m p q r t c =
    let d : Distinct p = is_path_unique m p r in
    let e : Distinct q = is_path_unique m q t in
    let s : SameLinks p q = links_same m p q r t c in
    let h : head_of p ≡ head_of q = same_head p q d e r.ends t.ends (same_times m p q r t c) s in
    equal_of_links p q d e (r.long ∙ sym t.long) h s
