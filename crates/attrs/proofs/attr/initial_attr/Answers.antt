use Rattle.attrs.proofs.attr.initial_attr.Goals as goal

pub returns : goal.returns
returns c = λ img. rw (c.initial-perm.ensures.0, c.initial-perm.ensures.1, c.file_type-file_type.ensures img, c.delta_rdev.ensures img)
