use Rattle.normalize.proofs.Laying.{step-topped}
use Rattle.normalize.proofs.layer.put_normal_step.Goals as goal

pub returns-then-stack-gt0 : goal.returns-then-stack-gt0
returns-then-stack-gt0 c = step-topped (cc) c.put_number-record.ensures c.put_normal_record.ensures
