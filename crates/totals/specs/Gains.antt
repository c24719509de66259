-- The gains of soft values and of symbols, for two and four phases: natural numbers, greater where a symbol fits
-- better.
-- Defines:  raise_by            32,768, the size of the least soft value: what a soft value is raised by
--           raised z            z + 32,768, for a sixteen-bit number z
--           soft_gain h ys i s  32,768 plus what symbol s adds to the correlation at place i
--           nearness h a s      half a turn less the Lee distance of the symbols a and s
--           hard_gain h w i s   the nearness of symbol s and the symbol of w at place i
--           table_of h m f      the table of gains f i s, in runs of N, a run for each symbol
-- Laws: proofs/SoftTotals.antt, HardTotals.antt (totals and correlations, totals and distances).
-- Assumes nothing: these are definitions.
use Rattle.std.specs.Prelude.{ℕ, suc, ◌+◌, ◌-◌, ◌*◌, ◌/◌, ◌%◌, cond, List, ltb, ℤ, pos, negsuc}
use Rattle.range.specs.Below.{list_below}
use Rattle.range.specs.Signed.{entry}
use Rattle.rules.specs.Shape.{phases, half_turn, carriers}
use Rattle.rules.specs.Word.{symbol_at}
use Rattle.rules.specs.Pair.{minus}
use Rattle.rules.specs.Distance.{lee_of}

abbrev pub raise_by : ℕ
raise_by = 32768

abbrev pub raised : ℤ → ℕ
raised (pos a) = raise_by + a
raised (negsuc a) = raise_by - suc a

unfoldable pub soft_gain : ℕ → List ℤ → ℕ → ℕ → ℕ
soft_gain h ys i s =
    cond (ltb s (half_turn h)) (raised (entry ys (half_turn h * i + s)))
    (2 * raise_by - raised (entry ys (half_turn h * i + (s - half_turn h))))

unfoldable pub nearness : ℕ → ℕ → ℕ → ℕ
nearness h a s = half_turn h - lee_of h (minus (phases h) a s)

unfoldable pub hard_gain : ℕ → List ℕ → ℕ → ℕ → ℕ
hard_gain h w i s = nearness h (symbol_at w i) s

unfoldable pub table_of : ℕ → ℕ → (ℕ → ℕ → ℕ) → List ℕ
table_of h m f = list_below (phases h * carriers m) (λ e. f (e % carriers m) (e / carriers m))
