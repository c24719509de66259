-- `encoder::digits` meets its contract: each place takes the digit x_r.
-- Assumes nothing.
use Rattle.std.proofs.Common.{rules}
use Rattle.rules.specs.Place.{digit}
use Rattle.encoder.proofs.FromFn.{made_is}
use Rattle.encoder.proofs.digits.Goals as goal

pub returns : goal.returns
returns c = made_is _ (λ i. digit c.args.shape.m i c.args.r) _ (λ i y u k. search rules) 0 _ _ c.from_fn.ensures.items
