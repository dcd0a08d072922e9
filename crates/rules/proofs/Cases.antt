-- The worked cases of docs/THEOREM.md: what nobody could test, computed by the definitions. Of each, what the store answers is what the
-- table answers that was told the calls.
use Rattle.std.specs.Prelude.{None, Some}
use mathlib.Core.Path.{refl}
use mathlib.Core.List.{List, [], ◌∷◌, ◌++◌}
use mathlib.Core.Bool.{false}
use Prim.Native.Nat.{ℕ, zero, suc, ◌+◌}
use Rattle.wire.specs.Time.{epoch}
use Rattle.wire.specs.Orders.{by_number, by_bytes}
use Rattle.wire.specs.Rows.{lookup, insert, remove, set}
use Rattle.wire.specs.Maps.{empty, get, put, over, merge, keep}
use Rattle.image.specs.Meaning.{Text, Fields, Node, Batch, Store, directory, file}
use Rattle.rules.specs.Initial.{usual}
use Rattle.rules.specs.Fold.{same_kind, fold_record}
use Rattle.rules.specs.Answers.{Answer, refused, answer}
use Rattle.rules.specs.Stacks.{stack_on, over_base}
use Rattle.rules.specs.Reads.{look}
use Rattle.rules.specs.Asks.{Ask, Reply, reply, ask}
use Rattle.rules.specs.Calls.{Call}
use Rattle.rules.specs.Changes.{no_fields}
use Rattle.rules.specs.Normalise.{normal_layer, normal_batches, normal_live}
use Rattle.rules.specs.Queue.{fold_all}
use Rattle.rules.specs.Refusals.{refusal}
use Rattle.rules.specs.Outcomes.{result, change}
use Rattle.rules.specs.Table.{table_of, effect, tell_all, ask_table}
use Rattle.rules.specs.Demand.{after, told}
use Rattle.rules.proofs.Claims.{Claim, claim, HoldAll, one, single, made, run, freeze, given-delta, a, b, perm_of, size_of}

-- what the table answers after calls of a store
abbrev pub ask_told : (q : Ask) → List Call → Store → Answer (Reply q)
ask_told q cs s = ask_table usual q (tell_all usual (told usual (made cs) s) (table_of usual s))

-- ---- calls between freeze, fold and pop

abbrev pub root : Store
root = one 1 (directory 1 (empty by_bytes))

abbrev pub queued : List Call
queued = Call.add 1 a 7 epoch ∷ freeze ∷ Call.add 1 b 8 epoch ∷ []

abbrev pub folded : List Call
folded = queued ++ (Call.fold ∷ Call.remove 1 a epoch ∷ [])

abbrev pub popped : List Call
popped = folded ++ (Call.pop 1 ∷ [])

-- what stands in front of a batch's records: id, bytes, operations, reason
abbrev heads : List Batch → List (ℕ × ℕ × ℕ × ℕ)
heads [] = []
heads (c ∷ cs) = (c.id, c.bytes, c.operations, c.reason) ∷ heads cs

abbrev counted : List Call
counted = Call.note 3 ∷ Call.note 4 ∷ Call.add 1 a 7 epoch ∷ Call.request 2 ∷ freeze ∷ Call.note 5 ∷ Call.add 1 b 8 epoch ∷ freeze ∷ []

abbrev between : List Claim
between =
    claim (ask usual (Ask.listing 1 10) (run queued root)) (answer (Some ((a, 7) ∷ (b, 8) ∷ [])))
    ∷ claim (ask usual (Ask.listing 1 10) (run folded root)) (answer (Some ((b, 8) ∷ [])))
    ∷ claim (ask usual (Ask.listing 1 10) (run popped root)) (answer (Some ((b, 8) ∷ [])))
    ∷ claim (ask_told (Ask.listing 1 10) popped root) (answer (Some ((b, 8) ∷ [])))
    -- a second freeze finds live empty, a second pop finds no batch
    ∷ claim (refusal freeze (run (Call.add 1 a 7 epoch ∷ freeze ∷ []) root)) (Some 7)
    ∷ claim (refusal (Call.pop 1) (run popped root)) (Some 8)
    -- each batch has the counts noted since the one before it, and the requested reason, else 5 (Threshold)
    ∷ claim (heads (run counted root).batches) ((1, 7, 2, 2) ∷ (2, 5, 1, 5) ∷ [])
    -- outside the condition: a batch that is popped and was not folded is lost to the reads, and the table still has it
    ∷ claim (ask usual (Ask.listing 1 10) (run (Call.add 1 a 7 epoch ∷ freeze ∷ Call.pop 1 ∷ []) root)) (answer (Some []))
    ∷ claim (ask_told (Ask.listing 1 10) (Call.add 1 a 7 epoch ∷ freeze ∷ Call.pop 1 ∷ []) root) (answer (Some ((a, 7) ∷ [])))
    ∷ []

-- ---- a directory spread over a base, sixteen batches and live

-- a batch for each name: the names 65 + n, of which the last is the first to be added
abbrev pub spread : ℕ → List Call
spread zero = []
spread (suc n) = Call.add 1 ((65 + n) ∷ []) (100 + n) epoch ∷ freeze ∷ spread n

abbrev pub wide : List Call
wide = spread 16 ++ (Call.add 1 a 7 epoch ∷ Call.remove 1 (80 ∷ []) epoch ∷ Call.remove 1 b epoch ∷ [])

-- without 80, which the first batch adds, and b, which the base has
abbrev wide_rows : List (Text × ℕ)
wide_rows =
    (65 ∷ [], 100) ∷ (66 ∷ [], 101) ∷ (67 ∷ [], 102) ∷ (68 ∷ [], 103) ∷ (69 ∷ [], 104) ∷ (70 ∷ [], 105) ∷ (71 ∷ [], 106) ∷ (72 ∷ [], 107)
    ∷ (73 ∷ [], 108) ∷ (74 ∷ [], 109) ∷ (75 ∷ [], 110) ∷ (76 ∷ [], 111) ∷ (77 ∷ [], 112) ∷ (78 ∷ [], 113) ∷ (79 ∷ [], 114) ∷ (a, 7) ∷ []

abbrev pub root_with_b : Store
root_with_b = one 1 (directory 1 (single b 8))

abbrev spread_out : List Claim
spread_out =
    claim (ask usual (Ask.listing 1 20) (run wide root_with_b)) (answer (Some wide_rows))
    ∷ claim (ask usual (Ask.listing 1 15) (run wide root_with_b)) (refused 5)
    ∷ claim (ask_told (Ask.listing 1 20) wide root_with_b) (answer (Some wide_rows))
    ∷ claim (ask usual (Ask.child 1 (80 ∷ [])) (run wide root_with_b)) (answer None)
    ∷ claim (ask usual (Ask.child 1 (72 ∷ [])) (run wide root_with_b)) (answer (Some 107))
    -- there is no room for a seventeenth batch
    ∷ claim (refusal freeze (run wide root_with_b)) (Some 6)
    -- normalising a batch in the middle, and live, shows the same
    ∷ claim (ask usual (Ask.listing 1 20) (run (wide ++ (Call.normalise 7 ∷ Call.normalise 16 ∷ [])) root_with_b)) (answer (Some wide_rows))
    ∷ []

-- ---- an inode removed in one layer and touched again in another

abbrev pub old_file : Node
old_file = record {
  meta = record { perm = 0o600; links = 1; owner = 0; group = 0; atime = epoch; mtime = epoch; ctime = epoch; attributes = put by_bytes a (Some b) (empty by_bytes) };
  body = file 10;
}

abbrev pub old : Store
old = over_base 1 (put by_number 5 (Some old_file) (empty by_number))

abbrev pub set_mode : Fields
set_mode = record { mode = Some 0o100640; owner = None; group = None; links = None; atime = None; mtime = None; ctime = None; created = None; attributes = None }

abbrev pub removed : List Call
removed = Call.tombstone 5 ∷ Call.update 5 (Some set_mode) ∷ freeze ∷ []

abbrev pub touched : List Call
touched = removed ++ (Call.insert 5 (given-delta no_fields (file (Some 3))) ∷ freeze ∷ Call.update 5 (Some set_mode) ∷ [])

abbrev pub settled : List Call
settled = touched ++ (Call.fold ∷ Call.pop 1 ∷ Call.fold ∷ Call.pop 2 ∷ [])

abbrev again : List Claim
again =
    -- an update of the removed inode does nothing
    claim (ask usual (Ask.exists 5) (run removed old)) (answer false)
    -- then it is another file: its own size, the low 12 bits of the update's mode, nothing of the old one
    ∷ claim (perm_of (ask usual (Ask.attributes 5) (run touched old))) (Some 0o640)
    ∷ claim (size_of (ask usual (Ask.attributes 5) (run touched old))) (Some 3)
    ∷ claim (ask usual (Ask.attribute 5 a) old) (answer (Some b))
    ∷ claim (ask usual (Ask.attribute 5 a) (run touched old)) (answer None)
    ∷ claim (ask usual (Ask.names 5 10) (run touched old)) (answer (Some []))
    -- and the same when both batches are folded and popped, and of the table
    ∷ claim (ask usual (Ask.attributes 5) (run settled old)) (ask usual (Ask.attributes 5) (run touched old))
    ∷ claim (ask usual (Ask.attribute 5 a) (run settled old)) (answer None)
    ∷ claim (ask_told (Ask.attributes 5) settled old) (ask usual (Ask.attributes 5) (run touched old))
    ∷ []

-- ---- all three, computed

pub cases-hold : HoldAll (between ∷ spread_out ∷ again ∷ [])
unfolding reply after told tell_all effect change result look stack_on get put merge over keep set insert remove lookup empty fold_record same_kind fold_all normal_layer normal_batches normal_live
cases-hold = ((refl, (refl, (refl, (refl, (refl, (refl, (refl, (refl, (refl, tt))))))))), ((refl, (refl, (refl, (refl, (refl, (refl, (refl, tt))))))), ((refl, (refl, (refl, (refl, (refl, (refl, (refl, (refl, (refl, tt))))))))), tt)))
