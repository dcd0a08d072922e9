use Rattle.merge.proofs.Lists.{pile-ascends}
use Rattle.gather.specs.Gathers.{pile_in}
use Rattle.gather.proofs.gather.gather_sources.Goals as goal

pub invariant_of-result : goal.invariant_of-result
invariant_of-result c = record { rise = rw c.gather_lists.ensures.are (pile-ascends (pile_in c.args.listing c.args.of c.args.stack)) }
