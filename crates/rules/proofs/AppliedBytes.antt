-- Demand 3 on bytes speaks of a worked case: calls between freeze, fold and pop, on the image of one directory, refused ones among them.
use mathlib.Core.Path.{◌≡◌, refl, ◌∙◌}
use mathlib.Core.List.{List, [], ◌∷◌, map}
use Prim.Native.Nat.{ℕ}
use native.Mathlib.Omega.{arith}
use Rattle.wire.specs.Number.{groups, number_bytes, number_read, groups-read}
use Rattle.wire.specs.Codec.{decode}
use Rattle.wire.specs.Time.{epoch, time}
use Rattle.wire.specs.Rows.{lookup, insert, remove, set}
use Rattle.wire.specs.Maps.{empty, get, put, over, merge}
use Rattle.image.specs.KindLayout.{kind, code}
use Rattle.image.specs.NodeLayout.{meta, node}
use Rattle.image.specs.RecordLayout.{fields, layer_record}
use Rattle.image.specs.StoreLayout.{batch_after, batches, store}
use Rattle.image.specs.Fits.{FitsStore}
use Rattle.image.specs.RoundTrip.{write_image}
use Rattle.rules.specs.Initial.{usual}
use Rattle.rules.specs.Fold.{same_kind, fold_record}
use Rattle.rules.specs.Stacks.{stack_on}
use Rattle.rules.specs.Reads.{look}
use Rattle.rules.specs.Calls.{Call}
use Rattle.rules.specs.Outcomes.{result, change}
use Rattle.rules.specs.Demand.{after, Conditions}
use Rattle.rules.specs.Room.{InRoom}
use Rattle.rules.specs.Behaviour.{CodeCall, Typed, Called, Agrees, image_after_all, ours}
use Rattle.rules.proofs.Twice.{layer-twice}
use Rattle.rules.proofs.Demand.{base-orderly}
use Rattle.rules.proofs.ResultImage.{usual-fits}
use Rattle.rules.proofs.Claims.{run, a, b}
use Rattle.rules.proofs.Cases.{root}
use Rattle.rules.proofs.DemandBytes.{made_of, follows, on_store}

abbrev into : ℕ → (c : CodeCall) → Typed c → Called
into target c h = record { call = c; target = target; typed = h }

root-fits : FitsStore root
unfolding empty put set insert
root-fits = omega arith

root-room : InRoom root
unfolding store batches node kind meta time number_bytes groups empty put set insert
root-room = omega arith

-- refused: by 5, a target of 30 bytes; by 4, a code that ends there; by 9, another id
abbrev calls : List Called
calls =
    into 100 (CodeCall.add_dir_entry 1 a 7 epoch) (omega arith)
    ∷ into 30 (CodeCall.add_dir_entry 1 b 8 epoch) (omega arith)
    ∷ into 100 (CodeCall.freeze_live 1 1 1 epoch) (omega arith)
    ∷ into 100 (CodeCall.insert_new_node 5 (2 ∷ [])) (omega arith)
    ∷ into 100 (CodeCall.add_dir_entry 1 b 8 epoch) (omega arith)
    ∷ into 100 CodeCall.fold_entries tt
    ∷ into 100 (CodeCall.remove_dir_entry 1 a epoch) (omega arith)
    ∷ into 100 (CodeCall.pop_flushed_batch 2) tt
    ∷ into 100 (CodeCall.pop_flushed_batch 1) tt
    ∷ []

-- the base has a → 7; live adds b → 8 and removes a
abbrev last : List ℕ
last =
    1 ∷ 1 ∷ 0 ∷ 0xED ∷ 3 ∷ 2 ∷ 0 ∷ 0 ∷ 0 ∷ 0 ∷ 0 ∷ 0 ∷ 0 ∷ 0 ∷ 0 ∷ 1 ∷ 1 ∷ 1 ∷ 97 ∷ 7
    ∷ 0
    ∷ 1 ∷ 1 ∷ 1 ∷ 96 ∷ 0 ∷ 0 ∷ 0 ∷ 0 ∷ 0 ∷ 1 ∷ 1 ∷ 98 ∷ 8 ∷ 1 ∷ 1 ∷ 97
    ∷ 2 ∷ 0 ∷ 0 ∷ 0 ∷ []

after-calls : write_image (after usual (map made_of calls) root) ≡ last
unfolding decode store batches batch_after node kind meta layer_record code fields time number_read groups-read number_bytes groups after change result look stack_on get put merge over set insert remove lookup empty fold_record same_kind
after-calls = refl

within : Conditions usual (map made_of calls) root
unfolding decode store batches batch_after node kind meta layer_record code fields time number_read groups-read number_bytes groups after change result look stack_on get put merge over set insert remove lookup empty fold_record same_kind
within = (refl, (tt, (tt, (tt, (refl, (tt, (refl, (tt, (layer-twice usual (run (Call.add 1 a 7 epoch ∷ []) root).live root.base, tt)))))))))

-- the image after the calls, byte for byte
pub bytes-last : image_after_all (ours usual) calls (write_image root) ≡ last
bytes-last = (follows usual usual-fits calls root root-fits root-room).image ∙ after-calls

-- whichever call comes next has the rules' result or refusal, and every read agrees with the table that was told the calls
pub bytes-agree : Agrees (ours usual) usual root calls (write_image root)
bytes-agree =
    on_store usual usual-fits refl root root-fits root-room (base-orderly 1 root.base) calls
    ((follows usual usual-fits calls root root-fits root-room).back within)
