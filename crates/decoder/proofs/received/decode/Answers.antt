-- `decoder::received::decode` meets its contract: a search through the gains finds what is right.
-- Assumes nothing.
use Rattle.std.proofs.Common.{◌*◌, ◌≤◌, ◌≡◌, ◌∙◌, sym}
use lib.Seq.{length-take-le}
use Rattle.rules.specs.Shape.{phases, carriers, greatest_m}
use Rattle.totals.specs.Gains.{table_of}
use Rattle.engine.specs.Search.{greatest_decoded, searched}
use Rattle.decoder.proofs.Lengths.{gains_fit}
use Rattle.decoder.proofs.received.decode.Given.{Over}
use Rattle.decoder.proofs.received.decode.Goals.{After-carriers, After-search-led}
use Rattle.decoder.proofs.received.decode.Goals as goal

fits : (g : Over) (c : After-carriers g) →
    c.phases.result * c.carriers.result ≤ phases greatest_decoded * carriers greatest_m
fits g c =
    let shape = g.R.Received.shape c.args.received.now in
    rw (c.phases.ensures, c.carriers.ensures, c.shape-shape.ensures)
    (gains_fit shape.h shape.m shape.in_range (g.met.R.Received.few c.args.received.now))

pub slice_bounds-gains-end : goal.slice_bounds-gains-end
slice_bounds-gains-end g c = fits g (goal.at.slice_bounds-gains-end g c).After-carriers

pub slice_bounds-gains-end-2 : goal.slice_bounds-gains-end-2
slice_bounds-gains-end-2 g c =
    sym (length-take-le _ _ (fits g (goal.at.slice_bounds-gains-end-2 g c).After-carriers))

pub fill-requires : goal.fill-requires
fill-requires g c =
    length-take-le _ _ (fits g (goal.at.fill-requires g c).After-carriers)
    ∙ rw (c.phases.ensures, c.carriers.ensures, c.shape-shape.ensures)

-- the standing is that of a search through the gains
led : (g : Over) (c : After-search-led g) → let shape = g.R.Received.shape c.args.received.now in
    c.search-led.result ≡ searched shape.h shape.m (table_of shape.h shape.m (g.R.Received.gain c.args.received.now))
led g c = c.search-led.ensures ∙ rw (c.shape-shape.ensures, c.fill.ensures.filled)

pub returns : goal.returns
returns g c =
    let found = g.met.R.Received.finds _ _ c.fill.ensures.seen (led g (goal.at.returns g c).After-search-led) in
    let message = c.message_of.ensures.0 c.shape-shape.result.in_range in
    rw (message, c.value.ensures, c.tied.ensures, c.shape-shape.ensures) found
