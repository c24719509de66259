-- `transform::rounds` meets its contract: stage after stage, the area that holds the last one is read and the other is
-- written. Invariant: what stands between the areas after k stages.
-- Assumes nothing.
use Rattle.transform.proofs.Between.{Between}
use Rattle.transform.proofs.rounds.Given as goal

abbrev pub invariant-loop-k : goal.invariant-loop-k
invariant-loop-k l = Between l.m l.initial.first l.initial.second l.first l.second l.s l.k
