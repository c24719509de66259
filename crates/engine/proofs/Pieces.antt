-- A list that is written piece after piece, said by index: what its numbers before a place are. In order: one piece
-- more; the whole list; a list whose front is written.
-- Assumes nothing.
use Prim.Native.Nat.{ℕ, ◌+◌, ◌-◌, ◌≤◌, ◌<◌}
use native.Mathlib.Decide.{dec_lt}
use native.Mathlib.Omega.{arith}
use mathlib.Core.Path.{◌≡◌, sym, ◌∙◌, ap}
use mathlib.Core.List.{List, ◌++◌}
use lib.ListN.{length, get_or, take, drop, length-append, length-drop, get_or-append}
use lib.Seq.{length-take-le, take_at, ext_get_or, get_or-take, get_or-append-add}
use Rattle.range.specs.Below.{list_below}
use Rattle.range.proofs.Lists.{length_list_below, list_below_at}

-- the numbers before place n are f's
abbrev pub Laid : (ℕ → ℕ) → List ℕ → ℕ → Type 0
Laid f xs n = (e : ℕ) → e < n → get_or xs e 0 ≡ f e

-- how many numbers the piece from place n to place e has
pub length-part : (n e k : ℕ) (xs : List ℕ) → e ≡ n + k → n + k ≤ length xs → length (take (e - n) (drop n xs)) ≡ k
length-part n e k xs end room =
    let piece : e - n ≡ k = omega (arith, end) in
    rw piece (length-take-le k (drop n xs) (rw length-drop (omega (arith, room))))

-- a piece of k numbers from place n on
pub written_next : (f : ℕ → ℕ) (xs piece rest : List ℕ) (n k m : ℕ) → n ≤ length xs → length piece ≡ k → m ≡ n + k →
    Laid f xs n → ((i : ℕ) → i < k → get_or piece i 0 ≡ f (n + i)) →
    Laid f (take n xs ++ (piece ++ rest)) m
written_next f xs piece rest n k m room long end before new e l = at (dec_lt e n)
  where
    front : length (take n xs) ≡ n
    front = length-take-le n xs room

    at : Dec (e < n) → get_or (take n xs ++ (piece ++ rest)) e 0 ≡ f e
    at (yes b) =
        get_or-append (take n xs) (piece ++ rest) 0 e (omega (arith, b, front))
        ∙ get_or-take n xs e 0 b ∙ before e b
    at (no b) =
        let i : ℕ = e - n in
        let inside : i < k = omega (arith, b, l, end) in
        let split : length (take n xs) + i ≡ e = omega (arith, b, front) in
        ap (λ (p : ℕ). get_or (take n xs ++ (piece ++ rest)) p 0) (sym split)
        ∙ get_or-append-add (take n xs) (piece ++ rest) i 0
        ∙ get_or-append piece rest 0 i (omega (arith, inside, long))
        ∙ new i inside ∙ ap f (omega (arith, b))

pub written_all : (f : ℕ → ℕ) (xs : List ℕ) (n : ℕ) → length xs ≡ n → Laid f xs n → xs ≡ list_below n f
written_all f xs n long w =
    ext_get_or 0 _ _ (long ∙ sym (length_list_below n f))
    (λ i l. w i (omega (arith, l, long)) ∙ sym (list_below_at n f i 0 (omega (arith, l, long))))

-- an area whose front of k numbers is written
pub front_written : (k : ℕ) (xs front : List ℕ) → k ≤ length xs → length front ≡ k →
    (take k (front ++ drop k xs) ≡ front) × (length (front ++ drop k xs) ≡ length xs)
front_written k xs front room long =
    (take_at front (drop k xs) k long, simp (length-append, length-drop) (omega arith))
