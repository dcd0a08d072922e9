-- Images with another queue or another tail: parts of the old image, and what is new.
use Rattle.std.specs.Prelude.{List, ◌++◌, ℕ, length}
use Rattle.wire.specs.Number.{number_bytes}
use Rattle.image.specs.declared.rows.Rows.{Rows}
use Rattle.survey.specs.Gathering.{batch_head}
use Rattle.writers.specs.Batches.{head_meant}
use Rattle.writers.specs.Tails.{tail as tailCodec, tail_meant}
use Rattle.writers.specs.declared.tail.Tail.{Tail}
use Rattle.change.specs.Sections.{between}
use Rattle.survey.specs.declared.store.Sections.{Sections}
use Rattle.waiting.specs.declared.write.Frozen.{Frozen}

-- base, batches and live as they are; another next id, staged counts and request
abbrev pub restaged : List ℕ → Sections → Tail → List ℕ
restaged img p t = between img 0 p.tail ++ tailCodec.write (tail_meant t)

-- base as it is; another count of batches, and of the image what stands from the first of these on
abbrev pub requeued : List ℕ → Sections → Rows → List ℕ
requeued img p n = between img 0 p.batches ++ (number_bytes n.count ++ between img n.first (length img))

-- base as it is; another count of batches, those that there are, and the records of live as one more; no live records; another tail
abbrev pub refrozen : List ℕ → Sections → Frozen → List ℕ
refrozen img p n =
    between img 0 p.batches ++ (number_bytes n.batches.count ++ (between img n.batches.first p.live
    ++ (batch_head.write (head_meant n.head) ++ (between img p.live p.tail ++ (number_bytes 0 ++ tailCodec.write (tail_meant n.tail))))))
