use Rattle.waiting.proofs.Queues.{queue-at}
use Rattle.waiting.proofs.batch.read_queue.Goals as goal

pub returns : goal.returns
returns c = queue-at c.rows_at-rows.ensures c.total_batches.ensures
