use mathlib.Core.Path.{refl, sym, ◌∙◌}
use lib.Seq.{take-length}
use Rattle.meld.proofs.Merging.{goes-less, goes-equal, goes-greater}
use Rattle.meld.proofs.left.Both.least.Goals as goal

pub returns-in-Less : goal.returns-in-Less
returns-in-Less c =
    goes-less c.requires.0 c.requires.1 (sym (rw (take-length c.args.upper.name.now) at c.compare_part.ensures) ∙ c.in-Less.is)
    c.take.ensures.0 c.take.ensures.1 refl

pub returns-in-Equal : goal.returns-in-Equal
returns-in-Equal c =
    goes-equal c.requires.0 c.requires.1 (sym (rw (take-length c.args.upper.name.now) at c.compare_part.ensures) ∙ c.in-Equal.is)
    c.take-in-Equal.ensures.0 c.take-in-Equal.ensures.1 refl

pub returns-in-Greater : goal.returns-in-Greater
returns-in-Greater c =
    goes-greater c.requires.0 c.requires.1 (sym (rw (take-length c.args.upper.name.now) at c.compare_part.ensures) ∙ c.in-Greater.is)
    c.take-in-Greater.ensures.0 refl c.take-in-Greater.ensures.1
