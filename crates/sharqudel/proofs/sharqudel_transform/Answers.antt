-- `sharqudel::sharqudel_transform` meets its contract: it asks for the refusal, and where there is none the stages run.
-- Assumes nothing.
use Rattle.sharqudel.proofs.OutLaws.{transformed_out_refused}
use Rattle.sharqudel.proofs.sharqudel_transform.Goals as goal

pub returns-in-Err : goal.returns-in-Err
returns-in-Err c = transformed_out_refused _ _ _ _ _ c.in-Err.why c.in-Err.ensures c.tell.ensures
