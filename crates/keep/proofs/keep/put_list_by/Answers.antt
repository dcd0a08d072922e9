use Rattle.std.proofs.Common.{rules}
use Rattle.keep.specs.Keeps.{leads_from}
use Rattle.keep.proofs.Keeping.{kept-list}
use Rattle.keep.proofs.keep.put_list_by.Goals as goal

pub returns : goal.returns
returns g c =
    kept-list c.args.list (leads_from c.args.first c.args.sources.now) (c.put_counted.ensures _ _ (λ l q w m h. (search rules, search rules)))
