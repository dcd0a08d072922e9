-- What the arguments of a call can be, by their types: inodes of 64 bits, texts of bytes, seconds of signed 64 bits, a delta as the layout
-- reads it. That a name has 1 to 255 bytes and nanoseconds are below 1,000,000,000 is what refusals 3 and 4 are for.
use Rattle.std.specs.Int.{w64}
use Rattle.std.proofs.Common.{SFits}
use Rattle.wire.specs.declared.time.Time.{Time}
use Rattle.wire.specs.Codec.{Bytes}
use Rattle.image.specs.Meaning.{Kind}
use Rattle.image.specs.Fits.{IfGiven, FitsInode, FitsWord, FitsFields, FitsRecord}
use Rattle.rules.specs.Initial.{Initial}
use Rattle.rules.specs.Calls.{Call}

abbrev pub FitsSeconds : Time → Type 0
FitsSeconds t = SFits w64 t.seconds

abbrev pub FitsCall : Call → Type 0
FitsCall (Call.insert i r) = FitsInode i × IfGiven FitsRecord r
FitsCall (Call.tombstone i) = FitsInode i
FitsCall (Call.add i name inode t) = FitsInode i × Bytes name × FitsInode inode × FitsSeconds t
FitsCall (Call.remove i name t) = FitsInode i × Bytes name × FitsSeconds t
FitsCall (Call.set_parent i p) = FitsInode i × FitsInode p
FitsCall (Call.update i new) = FitsInode i × IfGiven FitsFields new
FitsCall (Call.normalise p) = Unit {0}
FitsCall (Call.freeze limits t) = FitsSeconds t
FitsCall Call.fold = Unit {0}
FitsCall (Call.pop id) = Unit {0}
FitsCall (Call.note n) = Unit {0}
FitsCall (Call.request r) = Unit {0}

-- "perm, links below 2^32", of initial values too
abbrev pub FitsInitial : Initial → Type 0
FitsInitial initial = (k : Kind) → FitsWord (initial k).perm × FitsWord (initial k).links
