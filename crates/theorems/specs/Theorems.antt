-- THE INDEX OF THEOREMS: what the words and the calls of document 01 guarantee, for every shape and every input, in the
-- order of the demands (docs/RULES.md). One record, of which proofs/Proved.antt is the one value.
-- Defines:  Theorems    the claims: of each demand, of the transform by itself, and further facts
-- Assumes nothing: these are definitions.
use Rattle.theorems.specs.Demand1.{Demand1}
use Rattle.theorems.specs.Demand2.{Demand2}
use Rattle.theorems.specs.Demand3.{Demand3}
use Rattle.theorems.specs.Transforms.{Transforms}
use Rattle.theorems.specs.Further.{Further}

pub record Theorems : Type 2 where
  -- refused by number exactly when; a refusal writes nothing; every answer is pinned down
  pub demand1 : Demand1
  -- the formula, reading, pairs, the greatest correlation and the nearest word
  pub demand2 : Demand2
  -- distances and damage
  pub demand3 : Demand3
  -- its part, its areas, the question about it
  pub transform : Transforms
  -- round trips, correlations, unit soft values, sixteen symbols, peak power
  pub further : Further
