-- `encoder::partner` meets its contract: the lift of the first step by half the phases is the partner.
-- Assumes nothing.
use Rattle.encoder.proofs.Formula.{lifted_partner}
use Rattle.encoder.proofs.SentLaws.{sent_cong}
use Rattle.encoder.proofs.partner.Goals as goal

pub returns : goal.returns
returns c =
    sent_cong (lifted_partner c.args.h c.args.m c.args.message.0) c.send.ensures
