-- `encoder::encode` meets its contract: a lift of nothing leaves the word.
-- Assumes nothing.
use Rattle.encoder.proofs.Formula.{lifted_word}
use Rattle.encoder.proofs.SentLaws.{sent_cong}
use Rattle.encoder.proofs.encode.Goals as goal

pub returns : goal.returns
returns c =
    sent_cong (lifted_word c.args.h c.args.m c.args.message.0) c.send.ensures
