-- What the gatherers read has one form.
-- Assumes nothing.
use Rattle.std.specs.Prelude.{Option}
use mathlib.Core.Path.{refl}
use Prim.Native.Nat.{ℕ}
use Rattle.wire.specs.Codec.{OneForm}
use Rattle.wire.specs.Combinators.{only}
use Rattle.wire.specs.Lists.{after}
use Rattle.wire.specs.Number.{between, number_to}
use Rattle.wire.specs.Orders.{by_number}
use Rattle.wire.proofs.OneForm.{then-one, only-one}
use Rattle.wire.proofs.NumberForms.{between-one, number_to-one}
use Rattle.wire.proofs.ListForms.{rows-one}
use Rattle.image.specs.FieldLayout.{inode, word, moment}
use Rattle.image.specs.StoreLayout.{batch_rest}
use Rattle.image.proofs.OneForm.{inode-one, word-one, moment-one, batch_rest-one}
use Rattle.survey.specs.Gathering.{head_rest, batch_head, queue_rows}
use Rattle.survey.specs.Survey.{tail_after}

pub head_rest-one : OneForm head_rest
head_rest-one = then-one word _ word-one (then-one word _ word-one (then-one (between 1 5 refl) moment (between-one 1 5 refl) moment-one))

pub batch_head-one : OneForm batch_head
batch_head-one = then-one inode head_rest inode-one head_rest-one

pub queue_rows-one : OneForm queue_rows
queue_rows-one = rows-one by_number inode batch_rest inode-one batch_rest-one 16 refl

pub tail_after-one : (last : Option ℕ) → OneForm (tail_after last)
tail_after-one last =
    then-one (only (after by_number last) inode) _ (only-one (after by_number last) inode inode-one)
    (then-one word _ word-one (then-one word (number_to 5 refl) word-one (number_to-one 5 refl)))
