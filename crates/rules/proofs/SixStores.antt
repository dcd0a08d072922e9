-- The six stores of document 01 that "must not verify": no behaviour of such a sort meets demand 3 on bytes.
use Rattle.std.specs.Prelude.{None, Option, Some}
use mathlib.Core.Path.{◌≡◌, refl, sym, ap, ◌∙◌}
use mathlib.Core.List.{List, [], ◌∷◌}
use mathlib.Core.Bool.{true, false}
use Prim.Native.Nat.{ℕ}
use native.Mathlib.Omega.{arith}
use lib.ListN.{length}
use Rattle.wire.specs.Number.{groups, number_bytes}
use Rattle.wire.specs.Time.{epoch, time}
use Rattle.wire.specs.Orders.{by_number}
use Rattle.wire.specs.Rows.{lookup, insert, remove, set}
use Rattle.wire.specs.Maps.{empty, get, put, over, merge}
use Rattle.image.specs.KindLayout.{kind, code}
use Rattle.image.specs.NodeLayout.{meta, node}
use Rattle.image.specs.RecordLayout.{layer_record}
use Rattle.image.specs.StoreLayout.{batch_after, batches, store}
use Rattle.image.specs.Meaning.{Node, Base, Store, directory, file}
use Rattle.image.specs.Fits.{FitsStore}
use Rattle.image.specs.RoundTrip.{write_image}
use Rattle.image.proofs.RoundTrip.{one-image}
use Rattle.rules.specs.Initial.{usual}
use Rattle.rules.specs.Fold.{same_kind, fold_record}
use Rattle.rules.specs.Answers.{answer}
use Rattle.rules.specs.Stacks.{over_base, stack_on}
use Rattle.rules.specs.Reads.{look}
use Rattle.rules.specs.Asks.{Ask, reply}
use Rattle.rules.specs.Calls.{Call}
use Rattle.rules.specs.Queue.{fold_all}
use Rattle.rules.specs.Refusals.{refusal}
use Rattle.rules.specs.Outcomes.{result, change}
use Rattle.rules.specs.Table.{table_of, tell_all, ask_table}
use Rattle.rules.specs.Orderly.{Orderly}
use Rattle.rules.specs.Demand.{after}
use Rattle.rules.specs.Room.{InRoom, has_room}
use Rattle.rules.specs.Behaviour.{CodeCall, meant, Typed, Called, Behaviour, answered, image_after_all, told_of, Agrees, Meets-3}
use Rattle.rules.specs.WrongStores.{TurnsChangesAway, TurnsReadsAway, SaysNone, CopiesThrough, FoldsFirstOnly, PopsLater, InventsCounts, ReportsTarget, ReportsRows, ReportsLimits}
use Rattle.rules.proofs.Demand.{base-orderly, stays-orderly}
use Rattle.rules.proofs.ResultImage.{usual-fits, result-image}
use Rattle.rules.proofs.Claims.{empty_store, one, single, node_of, made, run, freeze, a}
use Rattle.rules.proofs.DemandBytes.{on-image}

-- ---- the stores that are asked

-- an orderly store that has an image
pub record Sample (s : Store) : Type 0 where
  pub fits : FitsStore s
  pub room : InRoom s
  pub orderly : Orderly s

empty-sample : Sample empty_store
unfolding store batches empty number_bytes groups
empty-sample = record { fits = omega arith; room = omega arith; orderly = base-orderly 1 empty_store.base }

-- directory 1 with a → 7
abbrev root : Store
root = one 1 (directory 1 (single a 7))

root-sample : Sample root
unfolding store batches node kind meta number_bytes groups empty put set insert time
root-sample = record { fits = omega arith; room = omega arith; orderly = base-orderly 1 root.base }

-- live removes 5
abbrev staged : Store
staged = run (Call.tombstone 5 ∷ []) empty_store

staged-sample : Sample staged
unfolding store batches layer_record code number_bytes groups empty get put set insert lookup after change result
staged-sample = record { fits = omega arith; room = omega arith; orderly = stays-orderly usual empty_store empty-sample.orderly (made (Call.tombstone 5 ∷ [])) (tt, tt) }

-- the base has file 5, and the second batch, which is the front, removes it
abbrev old_file : Store
old_file = over_base 2 (put by_number 5 (Some (node_of (file 0))) (empty by_number))

abbrev later : Store
later = run (Call.tombstone 5 ∷ freeze ∷ []) old_file

later-sample : Sample later
unfolding store batches batch_after node kind meta layer_record code time number_bytes groups empty get put set insert lookup after change result
later-sample = record { fits = omega arith; room = omega arith; orderly = stays-orderly usual old_file (base-orderly 2 old_file.base) (made (Call.tombstone 5 ∷ freeze ∷ [])) (tt, (tt, tt)) }

-- two batches
abbrev two_batches : List Call
two_batches = Call.tombstone 5 ∷ freeze ∷ Call.tombstone 6 ∷ freeze ∷ []

abbrev two : Store
two = run two_batches empty_store

two-sample : Sample two
unfolding store batches batch_after layer_record code time number_bytes groups empty get put set insert lookup after change result
two-sample = record { fits = omega arith; room = omega arith; orderly = stays-orderly usual empty_store empty-sample.orderly (made two_batches) (tt, (tt, (tt, (tt, tt)))) }

-- ---- what demand 3 says of the first call and of the first read

module _ (B : Behaviour) (meets : Meets-3 B usual) {s : Store} (S : Sample s) where
  first : Agrees B usual s [] (write_image s)
  first = meets (write_image s) s (record { short = S.room; holds = (one-image s S.fits).0; orderly = S.orderly }) [] tt

  first-call : (c : Called) → refusal (meant c.call) s ≡ None → has_room c.target (result usual (meant c.call) s) ≡ true
      → answered B c (write_image s) ≡ answer (write_image (result usual (meant c.call) s))
  unfolding image_after_all change
  first-call c e r = first.results c ∙ on-image usual (meant c.call) c.target s S.fits S.room ∙ rw (e, r) refl

  first_read : (q : Ask) → B.read q (write_image s) ≡ ask_table usual q (table_of usual s)
  unfolding image_after_all told_of tell_all
  first_read q = first.reads q

-- a call with the largest target
abbrev largest : (c : CodeCall) → Typed c → Called
largest c h = record { call = c; target = 65536; typed = h }

never : ◌≡◌ {A = ℕ} 0 1 → ⊥
never z = omega arith

-- what stands under 5
abbrev fifth : Base → Option Node
fifth base = get by_number 5 base

-- ---- no store of such a sort meets demand 3

module _ (B : Behaviour) (meets : Meets-3 B usual) where
  -- "a store that turns each call away": a request, on the empty store
  pub not-changes-away : TurnsChangesAway B → ⊥
  unfolding store batches empty number_bytes groups result
  not-changes-away w =
      let e = first-call B meets empty-sample (largest (CodeCall.request_freeze 1) tt) refl refl in
      let f = w (CodeCall.request_freeze 1) (write_image empty_store) 65536 in
      let z : false ≡ true = rw e at f in
      never cc

  pub not-reads-away : TurnsReadsAway B → ⊥
  unfolding reply
  not-reads-away w =
      let e = first_read B meets empty-sample (Ask.exists 1) in
      let f = w (Ask.exists 1) (write_image empty_store) in
      let z : false ≡ true = rw e at f in
      never cc

  -- "one that says "none" to each lookup": of a, which leads to 7
  pub not_none : SaysNone B → ⊥
  unfolding reply look stack_on get put merge over set insert remove lookup empty fold_all
  not_none w =
      let e : B.read (Ask.child 1 a) (write_image root) ≡ answer (Some 7) = first_read B meets root-sample (Ask.child 1 a) in
      let f = w 1 a (write_image root) in
      never cc

  -- "one that copies its image through": a request, which is the image's last byte
  pub not-copied : CopiesThrough B → ⊥
  unfolding store batches empty number_bytes groups result
  not-copied w =
      let e = first-call B meets empty-sample (largest (CodeCall.request_freeze 1) tt) refl refl in
      let f = w (CodeCall.request_freeze 1) (write_image empty_store) 65536 _ e in
      never cc

  -- "one that folds the first batch in full and merely drops later ones": fold of a second batch that removes 5
  pub not-first-only : FoldsFirstOnly B → ⊥
  unfolding store batches batch_after node kind meta layer_record code time number_bytes groups empty get put over merge set insert remove lookup after change result fold_record same_kind
  not-first-only w =
      let e = first-call B meets later-sample (largest CodeCall.fold_entries tt) refl refl in
      let i = result-image usual usual-fits Call.fold later later-sample.fits tt refl (omega arith) in
      let f = w (write_image later) 65536 _ later _ (one-image later later-sample.fits).0 refl e i in
      let z : None ≡ Some (node_of (file 0)) = ap fifth f in
      never cc

  -- pop of the first of two
  pub not_popped : PopsLater B → ⊥
  unfolding store batches batch_after layer_record code time number_bytes groups empty get put set insert lookup after change result
  not_popped w =
      let e = first-call B meets two-sample (largest (CodeCall.pop_flushed_batch 1) tt) refl refl in
      let i = result-image usual usual-fits (Call.pop 1) two two-sample.fits tt refl (omega arith) in
      let f = w 1 (write_image two) 65536 _ _ e i in
      never (sym (ap length f))

  -- "one with invented staged counts": a note, on the empty store
  pub not-invented : InventsCounts B → ⊥
  unfolding store batches empty number_bytes groups result
  not-invented w =
      let e = first-call B meets empty-sample (largest (CodeCall.record_mutation 1) tt) refl refl in
      let i = result-image usual usual-fits (Call.note 1) empty_store empty-sample.fits tt refl (omega arith) in
      w 1 (write_image empty_store) 65536 _ empty_store _ (one-image empty_store empty-sample.fits).0 e i refl refl

  -- "one that reports 5 untried": a tombstone on the empty store, with room for 100 bytes
  pub not-target : ReportsTarget B → ⊥
  unfolding store batches layer_record code empty get put set insert lookup number_bytes groups result
  not-target w =
      let e = first-call B meets empty-sample (record { call = CodeCall.tombstone 5; target = 100; typed = omega arith }) refl refl in
      let f = w 5 (write_image empty_store) 100 (omega arith) in
      never cc

  -- a listing of one name, with one row
  pub not-rows : ReportsRows B → ⊥
  unfolding reply look stack_on get put merge over set insert remove lookup empty fold_all
  not-rows w =
      let e : B.read (Ask.listing 1 1) (write_image root) ≡ answer (Some ((a, 7) ∷ [])) = first_read B meets root-sample (Ask.listing 1 1) in
      let f = w 1 1 (write_image root) in
      never cc

  -- "or 6": a freeze of one record, where there is no batch
  pub not-limits : ReportsLimits B → ⊥
  unfolding store batches batch_after layer_record code time empty get put set insert lookup number_bytes groups after change result
  not-limits w =
      let e = first-call B meets staged-sample (largest (CodeCall.freeze_live 1 1 1 epoch) (omega arith)) refl refl in
      let f = w 1 1 1 epoch (write_image staged) 65536 in
      never cc
