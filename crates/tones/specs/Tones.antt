-- What a receiver could hear of a word: 01 "What the receiver hears". A value is made as a natural number, raised by
-- 32,768, so that nothing is negated, and lowered at the end; what lies outside sixteen bits becomes its nearer end.
-- Defines:  next s                  the generator's next number
--           seed_at s e             its e-th number from s on; s itself for e = 0
--           bounded x               a level or a noise: 32,768 where it is greater
--           side a up               the level a above 0 or below it, raised
--           tone a four w e         value e of the word w, raised: of place e for two phases; for four the real and the
--                                   imaginary part of its places by turns. Behind the word stand symbols 0
--           moved v n s             a raised value off by at most n either way, drawn from s; not below 0
--           lowered v               the value that a raised one stands for
--           heard_at a n s four w e value e of what is heard of w, at level a, with noise n drawn from s on
--           Sounded c w d r d'      what `hear` promises: the seed to go on with, and the values in the slice that
--                                   held d
-- Laws: proofs/ToneLaws.antt.  Assumes nothing: these are definitions.
use Rattle.std.specs.Prelude.{ℕ, zero, suc, ◌+◌, ◌-◌, ◌*◌, ◌/◌, ◌%◌, min, ◌≡◌, Bool, true, false, cond, List, eqb, ltb}
use Rattle.std.specs.Prelude.{ℤ, pos, ◌-ℤ◌, length, get_or}
use Rattle.range.specs.Below.{list_below}
use Rattle.tones.specs.declared.Channel.{Channel}

abbrev pub next : ℕ → ℕ
next s = (s % 2147483648 * 1103515245 + 12345) % 2147483648

unfoldable pub seed_at : ℕ → ℕ → ℕ
seed_at s zero = s
seed_at s (suc e) = next (seed_at s e)

abbrev pub bounded : ℕ → ℕ
bounded x = min x 32768

abbrev pub side : ℕ → Bool → ℕ
side a up = cond up (32768 + bounded a) (32768 - bounded a)

unfoldable pub tone : ℕ → Bool → List ℕ → ℕ → ℕ
tone a false w e = side a (eqb (get_or w e 0) 0)
tone a true w e = cond (eqb (get_or w (e / 2) 0 % 2) (e % 2)) (side a (ltb (get_or w (e / 2) 0) 2)) 32768

unfoldable pub moved : ℕ → ℕ → ℕ → ℕ
moved v n s = v + s / 1024 % (2 * bounded n + 1) - bounded n

unfoldable pub lowered : ℕ → ℤ
lowered v = pos (min v 65535) -ℤ pos 32768

unfoldable pub heard_at : ℕ → ℕ → ℕ → Bool → List ℕ → ℕ → ℤ
heard_at a n s four w e = lowered (moved (tone a four w e) n (seed_at s (suc e)))

pub record Sounded (c : Channel) (w : List ℕ) (d : List ℤ) (r : ℕ) (d' : List ℤ) : Type 0 where
  pub seed : r ≡ seed_at c.seed (length d)
  pub values : d' ≡ list_below (length d) (heard_at c.level c.noise c.seed (ltb (length w) (length d)) w)
