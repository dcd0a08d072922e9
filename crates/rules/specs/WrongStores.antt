-- Document 01: "These must not verify: a store that turns each call away, one that says "none" to each lookup, one that copies its image
-- through, one that folds the first batch in full and merely drops later ones, one with invented staged counts, and one that reports 5 or 6
-- untried". Each sort is said of any behaviour.
use Rattle.std.specs.Prelude.{◌≡◌, List, [], true, ℕ, ◌+◌, ◌<◌, None}
use Rattle.wire.specs.declared.time.Time.{Time}
use Rattle.wire.specs.Parse.{got}
use Rattle.image.specs.Meaning.{Text, Store}
use Rattle.image.specs.RoundTrip.{read_image}
use Rattle.rules.specs.Answers.{refused, answer, is_refused}
use Rattle.rules.specs.Asks.{Ask}
use Rattle.rules.specs.Refusals.{other_id}
use Rattle.rules.specs.Behaviour.{CodeCall, Behaviour}

-- "a store that turns each call away": the changes, or the reads
abbrev pub TurnsChangesAway : Behaviour → Type 0
TurnsChangesAway B = (c : CodeCall) (img : List ℕ) (target : ℕ) → is_refused (B.change c img target) ≡ true

abbrev pub TurnsReadsAway : Behaviour → Type 0
TurnsReadsAway B = (q : Ask) (img : List ℕ) → is_refused (B.read q img) ≡ true

-- "one that says "none" to each lookup"
abbrev pub SaysNone : Behaviour → Type 0
SaysNone B = (i : ℕ) (name : Text) (img : List ℕ) → B.read (Ask.child i name) img ≡ answer None

-- "one that copies its image through"
abbrev pub CopiesThrough : Behaviour → Type 0
CopiesThrough B = (c : CodeCall) (img : List ℕ) (target : ℕ) (new : List ℕ) → B.change c img target ≡ answer new → new ≡ img

-- "one that folds the first batch in full and merely drops later ones": of a front batch other than the first, whose id is 1, nothing gets
-- into the base
abbrev pub FoldsFirstOnly : Behaviour → Type 0
FoldsFirstOnly B =
    (img : List ℕ) (target : ℕ) (new : List ℕ) (s t : Store) → read_image img ≡ got s [] → other_id 1 s.batches ≡ true
    → B.change CodeCall.fold_entries img target ≡ answer new → read_image new ≡ got t [] → t.base ≡ s.base

-- or the later ones are dropped with the first
abbrev pub PopsLater : Behaviour → Type 0
PopsLater B =
    (id : ℕ) (img : List ℕ) (target : ℕ) (new : List ℕ) (t : Store)
    → B.change (CodeCall.pop_flushed_batch id) img target ≡ answer new → read_image new ≡ got t [] → t.batches ≡ []

-- "one with invented staged counts"
abbrev pub InventsCounts : Behaviour → Type 0
InventsCounts B =
    (n : ℕ) (img : List ℕ) (target : ℕ) (new : List ℕ) (s t : Store) → read_image img ≡ got s []
    → B.change (CodeCall.record_mutation n) img target ≡ answer new → read_image new ≡ got t []
    → t.bytes ≡ s.bytes + n → t.operations ≡ s.operations + 1 → ⊥

-- "one that reports 5 untried": of a target that doesn't hold the largest image, to the smallest change; or of whatever rows, to a listing
abbrev pub ReportsTarget : Behaviour → Type 0
ReportsTarget B = (i : ℕ) (img : List ℕ) (target : ℕ) → target < 65536 → B.change (CodeCall.tombstone i) img target ≡ refused 5

abbrev pub ReportsRows : Behaviour → Type 0
ReportsRows B = (i lent : ℕ) (img : List ℕ) → B.read (Ask.listing i lent) img ≡ refused 5

-- "or 6": of whatever limits
abbrev pub ReportsLimits : Behaviour → Type 0
ReportsLimits B =
    (depth bytes operations : ℕ) (now : Time) (img : List ℕ) (target : ℕ) → B.change (CodeCall.freeze_live depth bytes operations now) img target ≡ refused 6
