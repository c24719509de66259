-- `encoder::Form::links` meets its contract: each turn adds one link.
-- Defines:  path f       the steps in use
--           gone f rest  how many of them are gone through, where these are left
--           Through f i size rest sum  the windows hold two steps, rest is the end of the path, and sum is that of the
--                                      links gone through
-- Assumes nothing.
use Prim.Native.Nat.{ℕ, ◌-◌, ◌≤◌}
use mathlib.Core.Path.{◌≡◌}
use mathlib.Core.List.{List}
use lib.ListN.{length, take, drop}
use Rattle.range.specs.Below.{sum_below}
use Rattle.std.specs.Slice.Iter.{windows_size, windows_rest}
use Rattle.encoder.specs.declared.Form.{Form}
use Rattle.encoder.specs.Forms.{link_at}
use Rattle.encoder.proofs.Form.links.Given as goal

abbrev pub path : Form → List ℕ
path f = take f.shape.m f.steps

abbrev pub gone : Form → List ℕ → ℕ
gone f rest = length (path f) - length rest

pub record Through (f : Form) (i size : ℕ) (rest : List ℕ) (sum : ℕ) : Type 0 where
  pub pairs : size ≡ 2
  pub some : 1 ≤ length rest
  pub within : length rest ≤ length (path f)
  pub left : rest ≡ drop (gone f rest) (path f)
  pub added : sum ≡ sum_below (gone f rest) (link_at f i)

abbrev pub invariant-loop-link : goal.invariant-loop-link
invariant-loop-link l = Through l.self l.at.place (windows_size l.link-iterator) (windows_rest l.link-iterator) l.sum
