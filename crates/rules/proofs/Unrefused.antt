-- What a call that is not refused is known to be: each test of its refusals says no.
use Rattle.std.specs.Prelude.{None, Some}
use Rattle.std.proofs.lemmas.Bool.{or_parts}
use mathlib.Core.Path.{◌≡◌, refl}
use mathlib.Core.List.{List, [], ◌∷◌}
use mathlib.Core.Bool.{Bool, true, false, cond, ◌||◌, ◌&&◌, not}
use Prim.Native.Nat.{ℕ, suc, ◌+◌, ◌^◌, ◌≤◌, ◌<◌}
use native.Mathlib.Omega.{arith}
use lib.Dec.{eqb, leb, ltb}
use lib.ListN.{length}
use borrow.Author.Tests.{leb-true, leb-false, ltb-false, eqb-false}
use Rattle.wire.specs.declared.time.Time.{Time}
use Rattle.wire.specs.Codec.{Bytes}
use Rattle.wire.specs.Lists.{Every}
use Rattle.image.specs.Meaning.{Text, Store}
use Rattle.image.specs.Fits.{FitsName, FitsTime}
use Rattle.rules.specs.Answers.{first_of}
use Rattle.rules.specs.Asks.{bad_name}
use Rattle.rules.specs.Calls.{Limits, Call}
use Rattle.rules.specs.Arguments.{FitsSeconds}
use Rattle.rules.specs.Refusals.{bad_time, is_empty, is_full, sum_of, past_count, last_id, refusal}

-- none of the tests holds
quiet : (ts : List (ℕ × Bool)) → first_of ts ≡ None → Every (λ t. t.1 ≡ false) ts
quiet [] e = tt
quiet (t ∷ ts) e = go t.1 refl e (quiet ts)
  where
    go : (b : Bool) → t.1 ≡ b → cond b (Some t.0) (first_of ts) ≡ None → (first_of ts ≡ None → Every (λ t. t.1 ≡ false) ts) → Every (λ t. t.1 ≡ false) (t ∷ ts)
    go true i e more = cc
    go false i e more = (i, more e)

both : (a b : Bool) → not (a && b) ≡ false → (a ≡ true) × (b ≡ true)
both true true e = (refl, refl)
both true false e = cc
both false b e = cc

good-name : (name : Text) → Bytes name → bad_name name ≡ false → FitsName name
good-name name h e =
    let t = both (leb 1 (length name)) (leb (length name) 255) e in
    (leb-true 1 (length name) t.0, leb-true (length name) 255 t.1, h)

good-time : (t : Time) → FitsSeconds t → bad_time t ≡ false → FitsTime t
good-time t h e = record { seconds = h; nanos = leb-false 1000000000 t.nanos e }

-- add and remove entry
pub named-fits : (name : Text) (t : Time) → Bytes name → FitsSeconds t → first_of ((3, bad_name name) ∷ (4, bad_time t) ∷ []) ≡ None → FitsName name × FitsTime t
named-fits name t n f e =
    let q = quiet ((3, bad_name name) ∷ (4, bad_time t) ∷ []) e in
    (good-name name n q.0, good-time t f q.1.0)

pub freeze-fits : (limits : Limits) (t : Time) (s : Store) → FitsSeconds t → refusal (Call.freeze limits t) s ≡ None → s.next < 2 ^ 64
    → FitsTime t × (length s.batches < 16) × (suc s.next < 2 ^ 64)
freeze-fits limits t s f e h =
    let q = quiet ((4, bad_time t) ∷ (6, is_full limits s.batches) ∷ (7, is_empty s.live.rows) ∷ (10, eqb s.next last_id) ∷ []) e in
    let n : s.next ≡ last_id → ⊥ = eqb-false s.next last_id q.1.1.1.0 in
    let full = or_parts (leb limits.batches (length s.batches) || leb limits.bytes (sum_of (λ b. b.bytes) s.batches))
    (leb limits.operations (sum_of (λ b. b.operations) s.batches) || leb 16 (length s.batches)) q.1.0 in
    let most = or_parts (leb limits.operations (sum_of (λ b. b.operations) s.batches)) (leb 16 (length s.batches)) full.1 in
    (good-time t f q.0, leb-false 16 (length s.batches) most.1, omega arith)

pub note-fits : (n : ℕ) (s : Store) → refusal (Call.note n) s ≡ None → (s.bytes + n < 2 ^ 32) × (s.operations + 1 < 2 ^ 32)
note-fits n s e =
    let q = quiet ((10, past_count (s.bytes + n) || past_count (s.operations + 1)) ∷ []) e in
    let p = or_parts (past_count (s.bytes + n)) (past_count (s.operations + 1)) q.0 in
    (omega (arith, ltb-false 4294967295 (s.bytes + n) p.0), omega (arith, ltb-false 4294967295 (s.operations + 1) p.1))

pub request-fits : (r : ℕ) (s : Store) → refusal (Call.request r) s ≡ None → r ≤ 5
request-fits r s e = ltb-false 5 r (quiet ((4, ltb 5 r) ∷ []) e).0
