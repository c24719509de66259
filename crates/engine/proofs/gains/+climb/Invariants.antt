-- The measure of `engine::gains::climb`: the stages left.
use Rattle.engine.proofs.gains.+climb.Given as goal

abbrev pub decreases-climb : goal.decreases-climb
decreases-climb l = l.d
