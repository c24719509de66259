-- `engine::gains::own_word` meets its contract: the message of a label in range is never refused, and its label is that
-- label.
-- Assumes nothing.
use Rattle.engine.proofs.Sending.{own_ok, sent_own}
use Rattle.engine.proofs.gains.own_word.Goals as goal

pub unwrap-requires : goal.unwrap-requires
unwrap-requires c =
    let shape = c.args.shape in
    own_ok shape.h shape.m c.args.label _ c.args.word.now _ _ shape.in_range c.requires.0 c.requires.1
    (c.message_of-message.ensures.0 shape.in_range) c.encode.ensures

pub returns : goal.returns
returns c =
    let shape = c.args.shape in
    sent_own shape.h shape.m c.args.label _ c.args.word.now _ _ shape.in_range c.requires.0 c.requires.1
    (c.message_of-message.ensures.0 shape.in_range) c.encode.ensures
