use Rattle.overlay.proofs.Editing.{putting-start, putting-more, putting-all}
use Rattle.overlay.proofs.write.put_image.Goals as goal

pub loop-other-init : goal.loop-other-init
loop-other-init c = putting-start c.put_edit-next.ensures

pub loop-other-preserved : goal.loop-other-preserved
loop-other-preserved c = putting-more c.loop-other.invariant _ c.loop-other-test.true c.put_edit-next-in-loop-other.ensures

pub returns : goal.returns
returns c = putting-all c.loop-other.invariant c.loop-other-test.false c.put_between.ensures
