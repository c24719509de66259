-- What a search through a slice tells.
-- Defines:  search_told s   the place found, if there is one
-- Assumes nothing: this is a definition.
use Rattle.std.specs.Prelude.{ℕ, Option, None, Some}
use Rattle.std.proofs.Math.Option as maybe

abbrev pub search_told : Option ℕ → maybe.Option ℕ
search_told (Some i) = maybe.some i
search_told None = maybe.none
