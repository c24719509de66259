-- `refusals::table::bad_symbol` meets its contract: the library's search is the rules'.
-- Assumes nothing.
use Rattle.std.proofs.Common.{◌∙◌, ap, leb}
use Rattle.rules.specs.Shape.{phases}
use Rattle.rules.specs.Table.{bad_symbol}
use Rattle.refusals.specs.Searched.{search_told}
use Rattle.refusals.proofs.Searches.{position_first_below}
use Rattle.refusals.proofs.table.bad_symbol.Goals as goal

pub returns : goal.returns
unfolding bad_symbol
returns c =
    let args = c.args in
    ap search_told (c.first_reaching.ensures)
    ∙ position_first_below (leb (phases args.h)) args.word.now 0
