-- The partner is never the word itself: at the place with the digit of the path's first step alone they are half a turn
-- apart. In order: the path's first step; the two words differ there; as lists.  Assumes nothing.
use Prim.Native.Nat.{ℕ, ◌-◌, ◌^◌, ◌≤◌, ◌<◌}
use native.Mathlib.Nat.{mul-one}
use native.Mathlib.Omega.{arith}
use mathlib.Core.List.{List, [], ◌∷◌}
use mathlib.Core.Logic.{◌≢◌}
use mathlib.Core.Path.{◌≡◌, refl, sym, ◌∙◌, ap}
use lib.Dec.{T}
use lib.ListN.{get_or}
use Rattle.rules.specs.Shape.{half_turn, carriers, messages, in_m}
use Rattle.rules.specs.Path.{IsPath, head_of, path_at}
use Rattle.rules.specs.Label.{labels, label_path, label_of}
use Rattle.rules.specs.Word.{word_at, partner_at, word_of, partner_of}
use Rattle.rules.proofs.Range.{in_m_least}
use Rattle.rules.proofs.SymbolLaws.{word_at_lt}
use Rattle.rules.proofs.Turns.{half_turn_moves}
use Rattle.paths.proofs.Members.{is_path_in}
use Rattle.places.proofs.Digits.{one_lt, digit_one_at}
use Rattle.rules.proofs.Messages.{label_of_lt}
use Rattle.words.proofs.Forms.{word_of_at, partner_of_at}
use Rattle.words.proofs.Used.{label_path_is_path}

-- the first of a list is its element at 0
pub head_of_at : (p : List ℕ) → head_of p ≡ get_or p 0 0
head_of_at [] = refl
head_of_at (x ∷ p) = refl

module _ (h m l : ℕ) (one : 1 ≤ h) (range : T (in_m m)) (used : l < labels h m) where
  -- the path's first step
  abbrev first : ℕ
  first = head_of (path_at m (label_path h m l))

  path_is : IsPath m (path_at m (label_path h m l))
  path_is = label_path_is_path h m l range used

  first_in : (1 ≤ first) × (first ≤ m)
  first_in =
      rw head_of_at
      (is_path_in m (path_at m (label_path h m l)) path_is 0 (omega (arith, path_is.long, in_m_least m range)))

  -- the place with the digit of that step alone
  abbrev place : ℕ
  place = 2 ^ (m - first)

  place_in : place < carriers m
  place_in = one_lt m first first_in.0 first_in.1

  partner_at_differs : partner_at h m l place ≢ word_at h m l place
  unfolding partner_at
  partner_at_differs =
      rw (digit_one_at m first, mul-one (half_turn h))
      (half_turn_moves h (word_at h m l place) one (word_at_lt h m l place))

-- the sham "a partner that is the word itself" is excluded for every message of every shape
pub partner_of_not_word_of : (h m g : ℕ) → 1 ≤ h → T (in_m m) → g < messages h m → partner_of h m g ≢ word_of h m g
partner_of_not_word_of h m g one range taken e =
    let l : ℕ = label_of h m g in
    let used : l < labels h m = label_of_lt h m g taken in
    let i : ℕ = place h m l one range used in
    let b : i < carriers m = place_in h m l one range used in
    partner_at_differs h m l one range used
    (sym (partner_of_at h m g i b) ∙ ap (λ (w : List ℕ). get_or w i 0) e ∙ word_of_at h m g i b)
