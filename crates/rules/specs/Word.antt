-- Words and their partners: 001 Corollary 4 and Theorem 3; 01 "What a logger may send", "The partner and the pair
-- check".
-- Defines:  links x p           x_p(1) x_p(2) + .. + x_p(m-1) x_p(m), where x k is the digit x_k
--           form_at h m l i     01's formula for label l at place i, not yet reduced
--           word_at h m l i     the symbol at place i of label l's word
--           partner_at h m l i  the symbol at place i of its partner
--           word_of h m g, partner_of h m g  the N symbols for message number g
--           symbol_at w i       the symbol at place i of a list of symbols
-- Laws: crates words, distances and golay.  Assumes nothing: these are definitions.
use Rattle.std.specs.Prelude.{ℕ, suc, ◌+◌, ◌*◌, ◌%◌, List, [], ◌∷◌, get_or}
use Rattle.range.specs.Below.{sum_below, list_below}
use Rattle.rules.specs.Shape.{phases, half_turn, carriers}
use Rattle.rules.specs.Place.{digit}
use Rattle.rules.specs.Path.{head_of, path_at}
use Rattle.rules.specs.Label.{label_path, coefficient, constant, label_of}

unfoldable pub links : (ℕ → ℕ) → List ℕ → ℕ
links x [] = 0
links x (a ∷ []) = 0
links x (a ∷ (b ∷ p)) = x a * x b + links x (b ∷ p)

unfoldable pub form_at : ℕ → ℕ → ℕ → ℕ → ℕ
form_at h m l i =
    half_turn h * links (digit m i) (path_at m (label_path h m l))
    + sum_below m (λ k. coefficient h m l (suc k) * digit m i (suc k))
    + constant h l

unfoldable pub word_at : ℕ → ℕ → ℕ → ℕ → ℕ
word_at h m l i = form_at h m l i % phases h

unfoldable pub partner_at : ℕ → ℕ → ℕ → ℕ → ℕ
partner_at h m l i = (word_at h m l i + half_turn h * digit m i (head_of (path_at m (label_path h m l)))) % phases h

unfoldable pub word_of : ℕ → ℕ → ℕ → List ℕ
word_of h m g = list_below (carriers m) (word_at h m (label_of h m g))

unfoldable pub partner_of : ℕ → ℕ → ℕ → List ℕ
partner_of h m g = list_below (carriers m) (partner_at h m (label_of h m g))

abbrev pub symbol_at : List ℕ → ℕ → ℕ
symbol_at w i = get_or w i 0
