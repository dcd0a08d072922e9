use Rattle.wire.proofs.Readers.{handed}
use Rattle.survey.proofs.Stores.{judged-long, judged-stopped, judged-longer, judged-fine}
use Rattle.survey.proofs.store.read_image.Goals as goal

pub returns-then-img-gt-MOST_BYTES : goal.returns-then-img-gt-MOST_BYTES
returns-then-img-gt-MOST_BYTES c = judged-long c.if-img-gt-MOST_BYTES.true

pub returns-in_err-survey : goal.returns-in_err-survey
returns-in_err-survey c = judged-stopped c.if-img-gt-MOST_BYTES.false c.survey_store.ensures c.in_err-survey.was (handed c.from_residual.ensures)

pub returns-then-follows : goal.returns-then-follows
returns-then-follows c = judged-longer c.if-img-gt-MOST_BYTES.false c.survey_store.ensures c.in_ok-survey.was c.if-follows.true

pub returns : goal.returns
returns c = judged-fine c.if-img-gt-MOST_BYTES.false c.survey_store.ensures c.in_ok-survey.was c.if-follows.false
