-- Demand 3 speaks of the worked cases: each call is within its condition, so that every read agrees with the table.
use Rattle.std.specs.Prelude.{Some}
use mathlib.Core.Path.{◌≡◌, refl}
use mathlib.Core.List.{[], ◌∷◌, ◌++◌}
use Rattle.wire.specs.Time.{epoch}
use Rattle.wire.specs.Rows.{lookup, insert, remove, set}
use Rattle.wire.specs.Maps.{empty, get, put, over, merge}
use Rattle.image.specs.Meaning.{Layer, file}
use Rattle.rules.specs.Initial.{usual}
use Rattle.rules.specs.Fold.{same_kind, fold_record}
use Rattle.rules.specs.Stacks.{stack_on}
use Rattle.rules.specs.Reads.{look}
use Rattle.rules.specs.Asks.{Ask, ask}
use Rattle.rules.specs.Calls.{Call}
use Rattle.rules.specs.Changes.{no_fields}
use Rattle.rules.specs.Queue.{fold_layer}
use Rattle.rules.specs.Outcomes.{result, change}
use Rattle.rules.specs.Demand.{after, Conditions}
use Rattle.rules.proofs.Twice.{layer-twice}
use Rattle.rules.proofs.Demand.{demand-3, base-orderly}
use Rattle.rules.proofs.Claims.{made, run, given-delta, a}
use Rattle.rules.proofs.Cases.{ask_told, root, popped, wide, root_with_b, old, removed, settled}

-- calls between freeze, fold and pop
within : Conditions usual (made popped) root
unfolding after change result look stack_on get put merge over set insert remove lookup empty fold_record same_kind
within = (refl, (tt, (refl, (tt, (refl, (layer-twice usual (run (Call.add 1 a 7 epoch ∷ []) root).live root.base, tt))))))

pub between-agrees : (q : Ask) → ask usual q (run popped root) ≡ ask_told q popped root
between-agrees = demand-3 root (base-orderly 1 root.base) (made popped) within

-- a directory spread over a base, sixteen batches and live
spread-within : Conditions usual (made wide) root_with_b
unfolding after change result look stack_on get put merge over set insert remove lookup empty fold_record same_kind
spread-within = (refl, (tt, (refl, (tt, (refl, (tt, (refl, (tt, (refl, (tt, (refl, (tt, (refl, (tt, (refl, (tt, (refl, (tt, (refl, (tt, (refl, (tt, (refl, (tt, (refl, (tt, (refl, (tt, (refl, (tt, (refl, (tt, (refl, (refl, (refl, tt)))))))))))))))))))))))))))))))))))

pub spread-agrees : (q : Ask) → ask usual q (run wide root_with_b) ≡ ask_told q wide root_with_b
spread-agrees = demand-3 root_with_b (base-orderly 1 root_with_b.base) (made wide) spread-within

-- an inode removed in one layer and touched again in another: the batches that are folded
front₁ : Layer
front₁ = (run (Call.tombstone 5 ∷ []) old).live

front₂ : Layer
front₂ = (run (removed ++ (Call.insert 5 (given-delta no_fields (file (Some 3))) ∷ [])) old).live

allowed : Conditions usual (made settled) old
unfolding front₁ front₂ after change result look stack_on get put merge over set insert remove lookup empty fold_record same_kind
allowed = (tt, (tt, (tt, (record { missing = refl; not_live = refl; orderly = (tt, tt) }, (tt, (tt, (tt, (layer-twice usual front₁ old.base, (tt, (layer-twice usual front₂ (fold_layer usual front₁ old.base), tt))))))))))

pub again-agrees : (q : Ask) → ask usual q (run settled old) ≡ ask_told q settled old
again-agrees = demand-3 old (base-orderly 1 old.base) (made settled) allowed
