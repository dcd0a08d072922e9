-- The new store of a call that is not refused has an image, where that is at most 65,536 bytes long.
use Rattle.std.specs.Prelude.{None, Some}
use mathlib.Core.Path.{◌≡◌}
use mathlib.Core.List.{List, [], ◌∷◌}
use native.Mathlib.Omega.{arith}
use Rattle.wire.specs.Parse.{got}
use Rattle.wire.specs.Lists.{Every}
use Rattle.image.specs.Meaning.{Base, Fields, Record, Batch, Store, directory, file, symlink, special, pipe, character, block, socket, tombstone}
use Rattle.image.specs.Fits.{FitsInode, Short, FieldsFits, NodeFits, RecordFits, MapFits, BatchFits, StoreFits, FitsFields, FitsRecord, FitsStore}
use Rattle.image.specs.RoundTrip.{read_image, write_image}
use Rattle.image.proofs.RoundTrip.{one-image}
use Rattle.rules.specs.Initial.{Initial, usual}
use Rattle.rules.specs.Stacks.{layers}
use Rattle.rules.specs.Calls.{Call}
use Rattle.rules.specs.Arguments.{FitsCall, FitsInitial}
use Rattle.rules.specs.Changes.{on_directory, adding, removing, setting_parent, updated}
use Rattle.rules.specs.Queue.{type_below, kept, fold_front, fold_all, snapshot}
use Rattle.rules.specs.Refusals.{refusal}
use Rattle.rules.specs.Outcomes.{result}
use Rattle.rules.specs.Room.{InRoom}
use Rattle.rules.proofs.EachRow.{Any, empty-fits, keep-fits}
use Rattle.rules.proofs.Recount.{recount-fields, recount-record, recount-store}
use Rattle.rules.proofs.FoldFits.{layer_fits, all_fit}
use Rattle.rules.proofs.LiveFits.{directory-fits, adding-fits, removing-fits, parent-fits, updated-fits}
use Rattle.rules.proofs.Unrefused.{named-fits, freeze-fits, note-fits, request-fits}
use Rattle.rules.proofs.StoreFits.{base-fits, on-live-fits, layers-fit, normalised-fits, frozen-fits, popped-fits}

-- what fits, with any counts
any-record : (r : Record) → FitsRecord r → RecordFits Any r
any-record r h = recount-record Short Any r h (λ k l. tt)

any-fields : (f : Fields) → FitsFields f → FieldsFits Any f
any-fields f h = recount-fields Short Any f h (λ k l. tt)

any-store : (s : Store) → FitsStore s → StoreFits Any s
any-store s h = recount-store Short Any s h (λ k l. tt)

-- in at most 65,536 bytes, counts are below 2^32
in-room : (s : Store) → InRoom s → StoreFits Any s → FitsStore s
in-room s room h = recount-store Any Short s h (λ k l. omega arith)

module _ (initial : Initial) (ok : FitsInitial initial) where
  front_fits : (bs : List Batch) (base : Base) → Every (BatchFits Any) bs → MapFits Any FitsInode (NodeFits Any) base
      → MapFits Any FitsInode (NodeFits Any) (fold_front initial bs base)
  front_fits [] base h k = k
  front_fits (b ∷ bs) base h k = layer_fits initial ok b.records base h.0.records k

  call_fits : (c : Call) (s : Store) → FitsCall c → refusal c s ≡ None → StoreFits Any s → StoreFits Any (result initial c s)
  unfolding result
  call_fits (Call.insert i None) s f e h = h
  call_fits (Call.insert i (Some r)) s f e h = on-live-fits i (λ o. Some r) s f.0 (λ o k. any-record r f.1) h
  call_fits (Call.tombstone i) s f e h = on-live-fits i (λ o. Some tombstone) s f (λ o k. tt) h
  call_fits (Call.add i name inode t) s f e h =
      let n = named-fits name t f.1 f.3 e in
      on-live-fits i (on_directory (adding name inode t)) s f.0 (directory-fits (adding name inode t) (adding-fits name inode t n.0 f.2 n.1)) h
  call_fits (Call.remove i name t) s f e h =
      let n = named-fits name t f.1 f.2 e in
      on-live-fits i (on_directory (removing name t)) s f.0 (directory-fits (removing name t) (removing-fits name t n.0 n.1)) h
  call_fits (Call.set_parent i p) s f e h =
      on-live-fits i (on_directory (setting_parent p)) s f.0 (directory-fits (setting_parent p) (parent-fits p f.1)) h
  call_fits (Call.update i None) s f e h = h
  call_fits (Call.update i (Some new)) s f e h =
      on-live-fits i (updated new (type_below s i)) s f.0 (updated-fits new (type_below s i) (any-fields new f.1)) h
  call_fits (Call.normalise p) s f e h = normalised-fits p s h
  call_fits (Call.freeze limits t) s f e h =
      let n = freeze-fits limits t s f e h.next in
      frozen-fits t s n.0 n.1 n.2 h
  call_fits Call.fold s f e h = base-fits _ s (front_fits s.batches s.base h.batches.each h.base) h
  call_fits (Call.pop id) s f e h = popped-fits s h
  call_fits (Call.note n) s f e h =
      let k = note-fits n s e in
      record { base = h.base; batches = h.batches; live = h.live; next = h.next; ids = h.ids; bytes = k.0; operations = k.1; request = h.request }
  call_fits (Call.request r) s f e h =
      record { base = h.base; batches = h.batches; live = h.live; next = h.next; ids = h.ids; bytes = h.bytes; operations = h.operations; request = request-fits r s e }

  any-snapshot : (s : Store) → StoreFits Any s → StoreFits Any (snapshot initial s)
  unfolding snapshot
  any-snapshot s h = record {
    base = keep-fits (λ i n. kept n) (fold_all initial (layers s) s.base) (all_fit initial ok (layers s) s.base (layers-fit s.batches s.live h.batches.each h.live) h.base);
    batches = record { count = omega arith; each = tt; rising = tt };
    live = empty-fits;
    next = h.next;
    ids = tt;
    bytes = omega arith;
    operations = omega arith;
    request = omega arith;
  }

  -- the new store fits an image
  pub result_fits : (c : Call) (s : Store) → FitsStore s → FitsCall c → refusal c s ≡ None → InRoom (result initial c s) → FitsStore (result initial c s)
  result_fits c s h f e room = in-room (result initial c s) room (call_fits c s f e (any-store s h))

  pub snapshot-fits : (s : Store) → FitsStore s → InRoom (snapshot initial s) → FitsStore (snapshot initial s)
  snapshot-fits s h room = in-room (snapshot initial s) room (any-snapshot s (any-store s h))

  -- so that what is written of it is read as that store
  pub result-image : (c : Call) (s : Store) → FitsStore s → FitsCall c → refusal c s ≡ None → InRoom (result initial c s)
      → read_image (write_image (result initial c s)) ≡ got (result initial c s) []
  result-image c s h f e room = (one-image (result initial c s) (result_fits c s h f e room)).0

  pub snapshot-image : (s : Store) → FitsStore s → InRoom (snapshot initial s) → read_image (write_image (snapshot initial s)) ≡ got (snapshot initial s) []
  snapshot-image s h room = (one-image (snapshot initial s) (snapshot-fits s h room)).0

-- document 01's table is one of these
pub usual-fits : FitsInitial usual
usual-fits directory = (omega arith, omega arith)
usual-fits file = (omega arith, omega arith)
usual-fits symlink = (omega arith, omega arith)
usual-fits (special pipe) = (omega arith, omega arith)
usual-fits (special character) = (omega arith, omega arith)
usual-fits (special block) = (omega arith, omega arith)
usual-fits (special socket) = (omega arith, omega arith)
