use Rattle.wire.specs.Orders.{by_bytes}
use Rattle.wire.specs.Maps.{get}
use Rattle.lookup.specs.Search.{list_in}
use Rattle.lookup.proofs.Searching.{Sought}
use Rattle.lookup.proofs.list.NameList.find.Given as goal

abbrev pub invariant-loop-row : goal.invariant-loop-row
invariant-loop-row l = Sought l.self.img.now l.self.what l.name (get by_bytes l.name (list_in l.self)) l.row-iterator
