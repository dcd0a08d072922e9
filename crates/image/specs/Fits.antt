-- The stores that an image can hold: document 01's limits on a meaning, with no word of reading or writing.
-- That a list rises, and holds nothing twice, is part of its map.
use Rattle.std.specs.Prelude.{List, [], ◌∷◌, ℕ, ◌^◌, ◌≤◌, ◌<◌, length, None, Option, Some}
use Rattle.std.specs.Int.{w64}
use Rattle.std.proofs.Common.{SFits}
use Rattle.wire.specs.declared.time.Time.{Time}
use Rattle.wire.specs.Order.{Order}
use Rattle.wire.specs.Maps.{Map}
use Rattle.wire.specs.Codec.{Bytes}
use Rattle.wire.specs.Lists.{Every}
use Rattle.image.specs.Meaning.{Text, Device, pipe, character, block, socket, Body, directory, file, symlink, special, Meta, Node, Changes, Fields, Change, Delta, Record, tombstone, delta, Layer, Batch, Store}

-- what is there fits
abbrev pub IfGiven : {A : Type 0} → (A → Type 0) → Option A → Type 0
IfGiven P None = Unit {0}
IfGiven P (Some a) = P a

-- "numbers below 2^64"
abbrev pub FitsInode : ℕ → Type 0
FitsInode i = i < 2 ^ 64

-- "perm, mode, links, owner, group, device and counts below 2^32"
abbrev pub FitsWord : ℕ → Type 0
FitsWord n = n < 2 ^ 32

-- "Sizes are below 2^63"
abbrev pub FitsSize : ℕ → Type 0
FitsSize n = n < 2 ^ 63

-- "A text is its length, then bytes; names 1 to 255, targets to 4,095, values to 4,096"
abbrev pub FitsText : ℕ → ℕ → Text → Type 0
FitsText least most t = (least ≤ length t) × (length t ≤ most) × Bytes t

abbrev pub FitsName : Text → Type 0
FitsName = FitsText 1 255

abbrev pub FitsTarget : Text → Type 0
FitsTarget = FitsText 0 4095

abbrev pub FitsValue : Text → Type 0
FitsValue = FitsText 0 4096

-- "seconds (signed 64 bits), then nanoseconds below 1,000,000,000"
pub record FitsTime (t : Time) : Type 0 where
  pub seconds : SFits w64 t.seconds
  pub nanos : t.nanos < 1000000000

-- "or device, or nothing, by kind"
abbrev pub FitsDevice : Device → Type 0
FitsDevice pipe = Unit {0}
FitsDevice (character device) = FitsWord device
FitsDevice (block device) = FitsWord device
FitsDevice socket = Unit {0}

-- "ids rising", "rising means strictly"
abbrev pub RisingIds : List Batch → Type 0
RisingIds [] = Unit {0}
RisingIds (b ∷ bs) = Every (λ c. b.id < c.id) bs × RisingIds bs

-- The lists' counts are limited by `Count`, all else by document 01's words.
module _ (Count : ℕ → Type 0) where
  -- "Every list has its count first"
  pub record MapFits {K A : Type 0} {O : Order K} (P : K → Type 0) (Q : A → Type 0) (m : Map O A) : Type 0 where
    pub count : Count (length m.rows)
    pub each : Every (λ e. P e.0 × Q e.1) m.rows

  -- ---- the base

  pub record MetaFits (m : Meta) : Type 0 where
    pub perm : FitsWord m.perm
    pub links : FitsWord m.links
    pub owner : FitsWord m.owner
    pub group : FitsWord m.group
    pub atime : FitsTime m.atime
    pub mtime : FitsTime m.mtime
    pub ctime : FitsTime m.ctime
    pub attributes : MapFits FitsName FitsValue m.attributes

  abbrev pub BodyFits : Body → Type 0
  BodyFits (directory parent entries) = FitsInode parent × MapFits FitsName FitsInode entries
  BodyFits (file size) = FitsSize size
  BodyFits (symlink target) = FitsTarget target
  BodyFits (special device) = FitsDevice device

  pub record NodeFits (n : Node) : Type 0 where
    pub meta : MetaFits n.meta
    pub body : BodyFits n.body

  -- ---- the layers

  abbrev pub ChangesFits : Changes → Type 0
  ChangesFits = MapFits FitsName (IfGiven FitsValue)

  pub record FieldsFits (f : Fields) : Type 0 where
    pub mode : IfGiven FitsWord f.mode
    pub owner : IfGiven FitsWord f.owner
    pub group : IfGiven FitsWord f.group
    pub links : IfGiven FitsWord f.links
    pub atime : IfGiven FitsTime f.atime
    pub mtime : IfGiven FitsTime f.mtime
    pub ctime : IfGiven FitsTime f.ctime
    pub created : IfGiven FitsTime f.created
    pub attributes : IfGiven ChangesFits f.attributes

  abbrev pub ChangeFits : Change → Type 0
  ChangeFits (directory parent added removed) =
      IfGiven FitsInode parent × (MapFits FitsName FitsInode added × MapFits FitsName (λ _. Unit {0}) removed)
  ChangeFits (file size) = IfGiven FitsSize size
  ChangeFits (symlink target) = IfGiven FitsTarget target
  ChangeFits (special s device) = FitsWord device

  pub record DeltaFits (d : Delta) : Type 0 where
    pub fields : FieldsFits d.fields
    pub change : ChangeFits d.change

  abbrev pub RecordFits : Record → Type 0
  RecordFits tombstone = Unit {0}
  RecordFits (delta d) = DeltaFits d

  abbrev pub LayerFits : Layer → Type 0
  LayerFits = MapFits FitsInode RecordFits

  -- "counts below 2^32", "reason 1 to 5"
  pub record BatchFits (b : Batch) : Type 0 where
    pub id : b.id < 2 ^ 64
    pub bytes : b.bytes < 2 ^ 32
    pub operations : b.operations < 2 ^ 32
    pub reason : (1 ≤ b.reason) × (b.reason ≤ 5)
    pub committed : FitsTime b.committed
    pub records : LayerFits b.records

  -- "at most 16, ids rising"
  pub record BatchesFits (bs : List Batch) : Type 0 where
    pub count : length bs ≤ 16
    pub each : Every BatchFits bs
    pub rising : RisingIds bs

  -- "ids below next id", "request (0 none; 1 to 5)"
  pub record StoreFits (s : Store) : Type 0 where
    pub base : MapFits FitsInode NodeFits s.base
    pub batches : BatchesFits s.batches
    pub live : LayerFits s.live
    pub next : s.next < 2 ^ 64
    pub ids : Every (λ b. b.id < s.next) s.batches
    pub bytes : s.bytes < 2 ^ 32
    pub operations : s.operations < 2 ^ 32
    pub request : s.request ≤ 5

-- ---- document 01's stores: "counts below 2^32"

abbrev pub Short : ℕ → Type 0
Short n = n < 2 ^ 32

abbrev pub FitsMap : {K A : Type 0} {O : Order K} → (K → Type 0) → (A → Type 0) → Map O A → Type 0
FitsMap = MapFits Short

abbrev pub FitsMeta : Meta → Type 0
FitsMeta = MetaFits Short

abbrev pub FitsBody : Body → Type 0
FitsBody = BodyFits Short

abbrev pub FitsNode : Node → Type 0
FitsNode = NodeFits Short

abbrev pub FitsChanges : Changes → Type 0
FitsChanges = ChangesFits Short

abbrev pub FitsFields : Fields → Type 0
FitsFields = FieldsFits Short

abbrev pub FitsChange : Change → Type 0
FitsChange = ChangeFits Short

abbrev pub FitsDelta : Delta → Type 0
FitsDelta = DeltaFits Short

abbrev pub FitsRecord : Record → Type 0
FitsRecord = RecordFits Short

abbrev pub FitsLayer : Layer → Type 0
FitsLayer = LayerFits Short

abbrev pub FitsBatch : Batch → Type 0
FitsBatch = BatchFits Short

abbrev pub FitsBatches : List Batch → Type 0
FitsBatches = BatchesFits Short

abbrev pub FitsStore : Store → Type 0
FitsStore = StoreFits Short
