-- Paths, labels and words as 01 writes them. In order: the links of a path as a sum; label order, both ways; the
-- message of given parts; the path of a message; the formula of a word and of a partner, at a place.
-- Not here: the laws of paths (crate paths), of labels and their order (crate words).  Assumes nothing.
use Prim.Native.Nat.{ℕ, suc, ◌+◌, ◌-◌, ◌*◌, ◌%◌, ◌^◌, ◌≤◌, ◌<◌}
use native.Mathlib.Decide.{dec_lt}
use native.Mathlib.Omega.{arith}
use mathlib.Core.Path.{◌≡◌, refl, ◌∙◌, ap}
use mathlib.Core.Bool.{true}
use mathlib.Core.List.{List, [], ◌∷◌}
use mathlib.Core.Logic.{◌↔◌}
use lib.ListN.{length, get_or}
use Rattle.range.specs.Below.{sum_below}
use Rattle.rules.specs.Shape.{in_shape, phases, carriers, paths_in_use, messages}
use Rattle.rules.specs.Place.{digit}
use Rattle.rules.specs.Path.{head_of, IsPath, Before, path_at}
use Rattle.rules.specs.Label.{label_path, coefficient, constant, label_parts, label_of, message_of}
use Rattle.rules.specs.Word.{links, form_at, word_at, partner_at, word_of, partner_of, symbol_at}
use Rattle.rules.proofs.Range.{in_shape_range, range_in_m}
use Rattle.rules.proofs.OrderLaws.{before_asymm, before_distinct}
use Rattle.rules.proofs.Messages.{label_of_lt, label_of_message_of, message_of_lt}
use Rattle.paths.proofs.Members.{path_at_is_path}
use Rattle.paths.proofs.Number.{paths_in_use_le}
use Rattle.words.proofs.Labels.{number_of, number_of_path, number_of_coefficient, number_of_constant, number_of_lt}
use Rattle.words.proofs.Labels.{label_path_lt}
use Rattle.words.proofs.Order.{label_order}
use Rattle.words.proofs.Forms.{word_of_at, partner_of_at}

-- neighbours of a list, one product for each but the last
links_cons : (x : ℕ → ℕ) (a : ℕ) (p : List ℕ) →
    links x (a ∷ p) ≡ sum_below (length p) (λ k. x (get_or (a ∷ p) k 0) * x (get_or (a ∷ p) (suc k) 0))
unfolding links sum_below
links_cons x a [] = refl
links_cons x a (b ∷ p) = ap (λ (n : ℕ). x a * x b + n) (links_cons x b p)

links_sum : (x : ℕ → ℕ) (p : List ℕ) →
    links x p ≡ sum_below (length p - 1) (λ k. x (get_or p k 0) * x (get_or p (suc k) 0))
unfolding links sum_below
links_sum x [] = refl
links_sum x (a ∷ p) =
    let e : suc (length p) - 1 ≡ length p = omega arith in
    rw e (links_cons x a p)

pub label_order_iff : (h m l k : ℕ) → (l < k) ↔ Before (label_parts h m l) (label_parts h m k)
label_order_iff h m l k = (label_order h m l k, λ b. at b (dec_lt l k) (dec_lt k l))
  where
    at : Before (label_parts h m l) (label_parts h m k) → Dec (l < k) → Dec (k < l) → l < k
    at b (yes p) d = p
    at b (no p) (yes q) = absurd (before_asymm b (label_order h m k l q))
    at b (no p) (no q) =
        let e : l ≡ k = omega arith in
        absurd (before_distinct b (ap (label_parts h m) e))

-- the message of given parts
module _ (h m n : ℕ) (c : ℕ → ℕ) (c0 : ℕ) (used : n < paths_in_use m)
    (small : (k : ℕ) → 1 ≤ k → k ≤ m → c k < phases h) (low : c0 < phases h) where
  abbrev made : ℕ
  made = number_of h m n c c0

  pub parts_message : (g : ℕ) × (g < messages h m) × (label_path h m (label_of h m g) ≡ n)
      × ((k : ℕ) → 1 ≤ k → k ≤ m → coefficient h m (label_of h m g) k ≡ c k) × (constant h (label_of h m g) ≡ c0)
  parts_message =
      let back = label_of_message_of h m made in (
        message_of h m made,
        message_of_lt h m made (number_of_lt h c m n c0 used small low),
        rw back (number_of_path h c m n c0 small low),
        (λ k a b. rw back (number_of_coefficient h c m n c0 k small low a b)),
        rw back (number_of_constant h c m n c0 low),
      )

module _ (h m g : ℕ) (shape : in_shape h m ≡ true) (taken : g < messages h m) where
  abbrev l : ℕ
  l = label_of h m g

  pub path_used : label_path h m l < paths_in_use m
  path_used = label_path_lt h m l (label_of_lt h m g taken)

  path_is : IsPath m (path_at m (label_path h m l))
  path_is =
      path_at_is_path m (label_path h m l)
      (omega (arith, path_used, paths_in_use_le m (range_in_m h m (in_shape_range h m shape))))

  pub word_formula : (i : ℕ) → i < carriers m → let p = path_at m (label_path h m l) in let x = digit m i in
      IsPath m p × (symbol_at (word_of h m g) i
      ≡ (2 ^ (h - 1) * sum_below (m - 1) (λ k. x (get_or p k 0) * x (get_or p (suc k) 0))
      + sum_below m (λ k. coefficient h m l (suc k) * x (suc k)) + constant h l) % 2 ^ h)
  unfolding word_at form_at
  word_formula i b =
      let p : List ℕ = path_at m (label_path h m l) in
      let e : links (digit m i) p ≡ sum_below (m - 1) (λ k. digit m i (get_or p k 0) * digit m i (get_or p (suc k) 0)) =
      links_sum (digit m i) p
      ∙ ap (λ (n : ℕ). sum_below (n - 1) (λ k. digit m i (get_or p k 0) * digit m i (get_or p (suc k) 0)))
      path_is.long in
      (path_is, word_of_at h m g i b ∙ rw e refl)

pub partner_formula : (h m g i : ℕ) → i < carriers m → symbol_at (partner_of h m g) i
    ≡ (symbol_at (word_of h m g) i + 2 ^ (h - 1) * digit m i (head_of (path_at m (label_path h m (label_of h m g))))) %
    2 ^ h
unfolding partner_at
partner_formula h m g i b = partner_of_at h m g i b ∙ rw (word_of_at h m g i b) refl
