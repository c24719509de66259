-- `encoder::split` meets its contract: each turn takes the lowest coefficient that is left and divides it away.
-- Invariant: the coefficients above r are taken, and rest is what stands above them.  Assumes nothing.
use Rattle.encoder.proofs.Divide.{Divided}
use Rattle.encoder.proofs.split.Given as goal

abbrev pub invariant-loop-r : goal.invariant-loop-r
invariant-loop-r l = Divided l.fn.shape.h l.fn.shape.m l.label l.q l.r l.rest l.coefficients
