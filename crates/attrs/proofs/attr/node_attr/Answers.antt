use Rattle.attrs.proofs.attr.node_attr.Goals as goal

pub returns : goal.returns
returns c = λ img h. rw (c.file_type.ensures img, c.node_perm.ensures img, c.node_rdev.ensures img, c.node_size.ensures img h)
