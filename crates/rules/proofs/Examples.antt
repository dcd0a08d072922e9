-- Document 01's examples P1 to P12: entries of one table under one theorem.
use Rattle.std.specs.Prelude.{None, Option, Some}
use mathlib.Core.Path.{◌≡◌, refl}
use mathlib.Core.List.{List, [], ◌∷◌}
use mathlib.Core.Bool.{true, false}
use Prim.Native.Nat.{ℕ, zero, suc, ◌-◌, ◌^◌}
use native.Mathlib.Omega.{arith}
use Rattle.wire.specs.declared.fault.Fault.TheVariants.{Ended, Malformed}
use Rattle.wire.specs.Parse.{fault, got}
use Rattle.wire.specs.Number.{edge, number_read, groups-read, groups, number_bytes}
use Rattle.wire.specs.Time.{epoch}
use Rattle.wire.specs.Orders.{by_number, by_bytes}
use Rattle.wire.specs.Rows.{lookup, insert, remove, set}
use Rattle.wire.specs.Maps.{empty, get, put, over, merge, keep}
use Rattle.image.specs.Meaning.{Text, Fields, Change, Record, Store, directory, file, symlink, special, tombstone, delta}
use Rattle.image.specs.FieldLayout.{size}
use Rattle.image.specs.StoreLayout.{batches, store}
use Rattle.survey.specs.Verdict.{refusal_of, verdict_of}
use Rattle.image.specs.RoundTrip.{read_image, write_image}
use Rattle.image.proofs.RoundTrip.{one-image, cut-image}
use Rattle.rules.specs.Initial.{usual}
use Rattle.rules.specs.Fold.{same_kind, fold_record}
use Rattle.rules.specs.Answers.{refused, answer}
use Rattle.rules.specs.Stacks.{stack_on, alone}
use Rattle.rules.specs.Reads.{look}
use Rattle.rules.specs.Asks.{Ask, reply, ask}
use Rattle.rules.specs.Calls.{Call}
use Rattle.rules.specs.Changes.{no_fields}
use Rattle.rules.specs.Normalise.{normal_layer, normal_batches, normal_live}
use Rattle.rules.specs.Queue.{fold_all, snapshot}
use Rattle.rules.specs.Refusals.{refusal}
use Rattle.rules.specs.Outcomes.{result, change}
use Rattle.rules.specs.Demand.{after}
use Rattle.rules.proofs.Claims.{Claim, claim, HoldAll, empty_store, one, single, run, freeze, given-delta, a, b, perm_of}

-- ---- what the entries are made of

-- frozen, folded and popped, where there is no other batch
abbrev settled : Store → Store
settled s = run (freeze ∷ Call.fold ∷ Call.pop 1 ∷ []) s

unfoldable pub long : ℕ → Text
long zero = []
long (suc n) = 97 ∷ long n

abbrev with_mode : ℕ → Fields
with_mode m = record { mode = Some m; owner = None; group = None; links = None; atime = None; mtime = None; ctime = None; created = None; attributes = None }

abbrev with_links : ℕ → Fields
with_links n = record { mode = None; owner = None; group = None; links = Some n; atime = None; mtime = None; ctime = None; created = None; attributes = None }

-- the names of a directory delta: added, removed
abbrev names_in : Change → List (Text × ℕ) × List (Text × Unit {0})
names_in (directory p added removed) = (added.rows, removed.rows)
names_in (file n) = ([], [])
names_in (symlink t) = ([], [])
names_in (special s d) = ([], [])

abbrev names_of : Option Record → Option (List (Text × ℕ) × List (Text × Unit {0}))
names_of None = None
names_of (Some tombstone) = None
names_of (Some (delta d)) = Some (names_in d.change)

abbrev s5 : Store
s5 = run (Call.add 9 a 7 epoch ∷ []) empty_store

abbrev s6 : Store
s6 = run (Call.insert 5 (given-delta no_fields (directory (Some 1) (single a 7) (put by_bytes a (Some tt) (empty by_bytes)))) ∷ []) empty_store

abbrev s7 : Store
s7 = run (Call.insert 5 (given-delta (with_mode 0o600) (symlink (Some a))) ∷ []) empty_store

abbrev s8 : Store
s8 = run (Call.tombstone 5 ∷ Call.insert 5 (given-delta no_fields (directory None (empty by_bytes) (empty by_bytes))) ∷ []) (one 5 (directory 1 (single a 7)))

abbrev s10 : Store
s10 = run (Call.insert 5 (given-delta (with_links 0) (file None)) ∷ freeze ∷ Call.fold ∷ []) empty_store

abbrev s11 : Store
s11 = run (Call.add 5 a 7 epoch ∷ Call.remove 5 b epoch ∷ Call.normalise 0 ∷ []) (one 5 (directory 1 (single a 7)))

-- ---- the entries

abbrev empty-image : List ℕ
empty-image = 0 ∷ 0 ∷ 0 ∷ 1 ∷ 0 ∷ 0 ∷ 0 ∷ []

abbrev cut-empty : List ℕ
cut-empty = 0 ∷ 0 ∷ 0 ∷ 1 ∷ 0 ∷ 0 ∷ []

-- "`00 00 00 01 00 00 00` is the empty store"
abbrev P1 : List Claim
P1 = claim (read_image empty-image) (got empty_store []) ∷ claim (refusal_of (verdict_of empty-image)) None ∷ []

-- "without its last byte, 2"
abbrev P2 : List Claim
P2 = claim (read_image cut-empty) (fault Ended) ∷ claim (refusal_of (verdict_of cut-empty)) (Some 2) ∷ []

-- "number `80 00`, bad"
abbrev P3 : List Claim
P3 = claim (number_read edge (0x80 ∷ 0 ∷ [])) (fault Malformed) ∷ []

-- "empty store, parent of 1: 1; of 2: none"
abbrev P4 : List Claim
P4 =
    claim (ask usual (Ask.parent 1) empty_store) (answer (Some 1))
    ∷ claim (ask usual (Ask.parent 2) empty_store) (answer None)
    ∷ []

-- "add to missing inode 9: 9 is a directory without parent; frozen, folded, popped: parent 1"
abbrev P5 : List Claim
P5 =
    claim (ask usual (Ask.type 9) s5) (answer (Some directory))
    ∷ claim (ask usual (Ask.parent 9) s5) (answer None)
    ∷ claim (ask usual (Ask.parent 9) (settled s5)) (answer (Some 1))
    ∷ []

-- "name added and removed: lookup none, listing shows it"
abbrev P6 : List Claim
P6 =
    claim (ask usual (Ask.child 5 a) s6) (answer None)
    ∷ claim (ask usual (Ask.listing 5 10) s6) (answer (Some ((a, 7) ∷ [])))
    ∷ []

-- "symlink mode 600 (octal): shown, 777 after fold and pop"
abbrev P7 : List Claim
P7 =
    claim (perm_of (ask usual (Ask.attributes 5) s7)) (Some 0o600)
    ∷ claim (perm_of (ask usual (Ask.attributes 5) (settled s7))) (Some 0o777)
    ∷ []

-- "base 5 holds a → 7, tombstone 5, insert empty directory 5: a is 7 again"
abbrev P8 : List Claim
P8 = claim (ask usual (Ask.child 5 a) s8) (answer (Some 7)) ∷ []

-- "freeze empty live: 7; at depth limit too: 6"
abbrev P9 : List Claim
P9 =
    claim (change usual freeze empty_store) (refused 7)
    ∷ claim (change usual (Call.freeze (record { batches = 0; bytes = 1; operations = 1 }) epoch) empty_store) (refused 6)
    ∷ []

-- "file with 0 links: folded yes, snapshot no"
abbrev P10 : List Claim
P10 =
    claim (ask usual (Ask.exists 5) (alone s10.base)) (answer true)
    ∷ claim (ask usual (Ask.exists 5) (snapshot usual s10)) (answer false)
    ∷ []

-- "base a → 7, live adds a → 7 and removes b: normalised empty"
abbrev P11 : List Claim
P11 = claim (names_of (get by_number 5 s11.live)) (Some ([], [])) ∷ []

-- "size 2^63 − 1 accepted, 2^63 not; name 255 accepted, 256 gives 3"
abbrev P12 : List Claim
P12 =
    claim (size.read (0xFF ∷ 0xFF ∷ 0xFF ∷ 0xFF ∷ 0xFF ∷ 0xFF ∷ 0xFF ∷ 0xFF ∷ 0x7F ∷ [])) (got (2 ^ 63 - 1) [])
    ∷ claim (size.read (0x80 ∷ 0x80 ∷ 0x80 ∷ 0x80 ∷ 0x80 ∷ 0x80 ∷ 0x80 ∷ 0x80 ∷ 0x80 ∷ 1 ∷ [])) (fault Malformed)
    ∷ claim (ask usual (Ask.child 1 (long 255)) empty_store) (answer None)
    ∷ claim (ask usual (Ask.child 1 (long 256)) empty_store) (refused 3)
    ∷ claim (refusal (Call.add 1 (long 255) 2 epoch) empty_store) None
    ∷ claim (refusal (Call.add 1 (long 256) 2 epoch) empty_store) (Some 3)
    ∷ []

abbrev pub table : List (List Claim)
table = P1 ∷ P2 ∷ P3 ∷ P4 ∷ P5 ∷ P6 ∷ P7 ∷ P8 ∷ P9 ∷ P10 ∷ P11 ∷ P12 ∷ []

-- ---- they hold: P1 and P2 by the round trip, all others by computing

p1 : read_image empty-image ≡ got empty_store []
unfolding store batches empty number_bytes groups
p1 =
    let written : write_image empty_store ≡ empty-image = refl in
    rw (← written) (one-image empty_store (omega arith)).0

p1-fine : refusal_of (verdict_of empty-image) ≡ None
unfolding verdict_of
p1-fine = rw p1

p2 : read_image cut-empty ≡ fault Ended
p2 = cut-image cut-empty (0 ∷ []) empty_store p1 (λ e. cc)

p2-refused : refusal_of (verdict_of cut-empty) ≡ Some 2
unfolding verdict_of
p2-refused = rw p2

pub table-holds : HoldAll table
unfolding reply after change result look stack_on get put merge over keep set insert remove lookup empty fold_record same_kind fold_all snapshot normal_layer normal_batches normal_live number_read groups-read long
table-holds = ((p1, (p1-fine, tt)), ((p2, (p2-refused, tt)), ((refl, tt), ((refl, (refl, tt)), ((refl, (refl, (refl, tt))), ((refl, (refl, tt)), ((refl, (refl, tt)), ((refl, tt), ((refl, (refl, tt)), ((refl, (refl, tt)), ((refl, tt), ((refl, (refl, (refl, (refl, (refl, (refl, tt)))))), tt))))))))))))
