use Rattle.image.proofs.Passing.{ends-made, ends-then}
use Rattle.image.specs.NodeLayout.{meta, meta_of}
use Rattle.passes.proofs.node.pass_meta.Goals as goal

pub returns : goal.returns
unfolding meta
returns c =
    ends-made meta_of
    (ends-then _ (λ a b. (a, b)) c.pass.ensures c.in_ok-links.was
    (ends-then _ (λ a b. (a, b)) c.pass-2.ensures c.in_ok-owner.was
    (ends-then _ (λ a b. (a, b)) c.pass-3.ensures c.in_ok-group.was
    (ends-then _ (λ a b. (a, b)) c.pass-4.ensures c.in_ok-atime.was
    (ends-then _ (λ a b. (a, b)) c.pass-5.ensures c.in_ok-mtime.was
    (ends-then _ (λ a b. (a, b)) c.pass-6.ensures c.in_ok-ctime.was
    (ends-then _ (λ a b. (a, b)) c.pass-7.ensures c.in_ok-attributes.was c.pass_names.ensures)))))))
