-- Demand 3 on bytes, of the definitions that the code's contracts cite.
use Rattle.std.specs.Prelude.{None, Option, Some}
use mathlib.Core.Path.{◌≡◌, refl, sym, ap, ◌∙◌}
use mathlib.Core.List.{List, [], ◌∷◌, map}
use mathlib.Core.Bool.{Bool, true, false, cond}
use Prim.Native.Nat.{ℕ, ◌≤◌}
use native.Mathlib.Omega.{arith}
use Rattle.wire.specs.Parse.{Parsed, fault, got}
use Rattle.wire.specs.Codec.{decode}
use Rattle.wire.specs.Lists.{Every}
use Rattle.image.specs.Meaning.{Fields, Record, Store}
use Rattle.image.specs.Fits.{IfGiven, FitsFields, FitsRecord, FitsStore}
use Rattle.image.specs.RecordLayout.{fields, layer_record}
use Rattle.image.specs.RoundTrip.{read_image, write_image}
use Rattle.image.proofs.RoundTrip.{read-then-write, one-image, read_fits}
use Rattle.rules.specs.Initial.{Initial, Accepted, usual}
use Rattle.rules.specs.Answers.{Answer, refused, answer, first_of, unless, is_refused}
use Rattle.rules.specs.Views.{View}
use Rattle.rules.specs.Asks.{Ask, rows_of, names_of, bad_name, few_rows, reply}
use Rattle.rules.specs.Calls.{Call}
use Rattle.rules.specs.Arguments.{FitsCall, FitsInitial}
use Rattle.rules.specs.Refusals.{refusal}
use Rattle.rules.specs.Outcomes.{result, change, if_room}
use Rattle.rules.specs.Table.{table_of, tell_all, ask_table}
use Rattle.rules.specs.Orderly.{Orderly, Condition}
use Rattle.rules.specs.Demand.{Made, store_after, IfAccepted, outcome, next, after, told, Conditions}
use Rattle.rules.specs.Room.{InRoom, lent, FitsMade}
use Rattle.rules.specs.ReadCalls.{map_answer}
use Rattle.rules.specs.ChangeCalls.{if_read, given_record, given_fields, new_image, by_rules}
use Rattle.rules.specs.Behaviour.{CodeCall, meant, Typed, Called, image_after, WhereAccepted, answered, image_after_all, told_of, ConditionsOf, Agrees, OrderlyImage, Meets-3, changed, ours}
use Rattle.rules.proofs.Demand.{demand-3-for, stays-orderly}
use Rattle.rules.proofs.ResultImage.{usual-fits}
use Rattle.rules.proofs.ListImage.{lent_fits, after-fits}
use Rattle.rules.proofs.Asked.{over-fine, calls-answer}
use Rattle.wire.proofs.Decoding.{encode-decode}
use Rattle.image.proofs.OneForm.{layer_record-one, fields-one}

-- ---- the arguments

-- whatever bytes are given, the delta that they are read as fits
record-given : (bytes : List ℕ) → IfGiven FitsRecord (given_record bytes)
unfolding layer_record
record-given bytes = go (decode layer_record bytes) refl
  where
    go : (p : Parsed Record) → decode layer_record bytes ≡ p → IfGiven FitsRecord (if_read p)
    go (fault f) e = tt
    go (got r rest) e = (encode-decode layer_record layer_record-one bytes r rest e).1

fields-given : (bytes : List ℕ) → IfGiven FitsFields (given_fields bytes)
unfolding fields
fields-given bytes = go (decode fields bytes) refl
  where
    go : (p : Parsed Fields) → decode fields bytes ≡ p → IfGiven FitsFields (if_read p)
    go (fault f) e = tt
    go (got r rest) e = (encode-decode fields fields-one bytes r rest e).1

pub typed-fits : (c : CodeCall) → Typed c → FitsCall (meant c)
typed-fits (CodeCall.insert_new_node i delta) h = (h, record-given delta)
typed-fits (CodeCall.tombstone i) h = h
typed-fits (CodeCall.add_dir_entry i name inode now) h = h
typed-fits (CodeCall.remove_dir_entry i name now) h = h
typed-fits (CodeCall.update_dir_parent i parent) h = h
typed-fits (CodeCall.update_attr_delta i delta) h = (h, fields-given delta)
typed-fits (CodeCall.normalize_directory_deltas position) h = tt
typed-fits (CodeCall.freeze_live depth bytes operations now) h = h
typed-fits CodeCall.fold_entries h = tt
typed-fits (CodeCall.pop_flushed_batch id) h = tt
typed-fits (CodeCall.record_mutation additional) h = tt
typed-fits (CodeCall.request_freeze reason) h = tt

-- a call of the code, on meanings
abbrev pub made_of : Called → Made
made_of c = lent c.target (meant c.call)

made-fits : (c : Called) → FitsMade (made_of c)
made-fits c = lent_fits c.target (meant c.call) (typed-fits c.call c.typed)

all_fit : (calls : List Called) → Every FitsMade (map made_of calls)
all_fit [] = tt
all_fit (c ∷ cs) = (made-fits c, all_fit cs)

-- ---- "3 and 5 alike, 1 and 2 never"

answer-refused : {A B : Type 0} {x : A} {n : ℕ} → ◌≡◌ {A = Answer A} (answer x) (refused n) → B
answer-refused e = cc

one-refusal : {A : Type 0} (k n : ℕ) (b : Bool) (x : A) → 3 ≤ k → unless (first_of ((k, b) ∷ [])) x ≡ refused n → 3 ≤ n
one-refusal k n true x l e = let z : k ≡ n = cc in omega (arith, l, z)
one-refusal k n false x l e = answer-refused e

-- no read of a table, or of a store, is refused by 1 or 2
pub never-1-or-2 : (q : Ask) (v : View) (n : ℕ) → reply q v ≡ refused n → 3 ≤ n
unfolding reply
never-1-or-2 (Ask.exists i) v n e = answer-refused e
never-1-or-2 (Ask.type i) v n e = answer-refused e
never-1-or-2 (Ask.attributes i) v n e = answer-refused e
never-1-or-2 (Ask.link_text i) v n e = answer-refused e
never-1-or-2 (Ask.parent i) v n e = answer-refused e
never-1-or-2 (Ask.child i name) v n e = one-refusal 3 n (bad_name name) (v.child name) (omega arith) e
never-1-or-2 (Ask.attribute i name) v n e = one-refusal 3 n (bad_name name) (v.attribute name) (omega arith) e
never-1-or-2 (Ask.listing i rows) v n e = one-refusal 5 n (few_rows rows v.listing) (rows_of v.listing) (omega arith) e
never-1-or-2 (Ask.names i rows) v n e = one-refusal 5 n (few_rows rows v.names) (names_of v.names) (omega arith) e

-- ---- answers as bytes

image-next : (a : Answer Store) (s : Store) → image_after (map_answer write_image a) (write_image s) ≡ write_image (store_after a s)
image-next (refused n) s = refl
image-next (answer t) s = refl

refused-alike : (a : Answer Store) → is_refused (map_answer write_image a) ≡ is_refused a
refused-alike (refused n) = refl
refused-alike (answer t) = refl

accepted-alike : (P : Type 0) (a : Answer Store) → WhereAccepted (map_answer write_image a) P → IfAccepted P a
accepted-alike P (refused n) h = tt
accepted-alike P (answer t) h = h

accepted-back : (P : Type 0) (a : Answer Store) → IfAccepted P a → WhereAccepted (map_answer write_image a) P
accepted-back P (refused n) h = tt
accepted-back P (answer t) h = h

module _ (initial : Initial) where
  -- each call of the code has the result or refusal that the rules give
  pub calls-change : (c : CodeCall) (img : List ℕ) (target : ℕ) → changed initial c img target ≡ by_rules initial (meant c) img target
  calls-change (CodeCall.insert_new_node i delta) img target = refl
  calls-change (CodeCall.tombstone i) img target = refl
  calls-change (CodeCall.add_dir_entry i name inode now) img target = refl
  calls-change (CodeCall.remove_dir_entry i name now) img target = refl
  calls-change (CodeCall.update_dir_parent i parent) img target = refl
  calls-change (CodeCall.update_attr_delta i delta) img target = refl
  calls-change (CodeCall.normalize_directory_deltas position) img target = refl
  calls-change (CodeCall.freeze_live depth bytes operations now) img target = refl
  calls-change CodeCall.fold_entries img target = refl
  calls-change (CodeCall.pop_flushed_batch id) img target = refl
  calls-change (CodeCall.record_mutation additional) img target = refl
  calls-change (CodeCall.request_freeze reason) img target = refl

  -- on the image of a store, the image of what the call gives of the store: never refused by 1 or 2
  pub on-image : (c : Call) (target : ℕ) (s : Store) → FitsStore s → InRoom s
      → by_rules initial c (write_image s) target ≡ map_answer write_image (outcome initial (lent target c) s)
  unfolding new_image
  on-image c target s h room = over-fine _ (write_image s) room (one-image s h).0

  -- ---- a list of calls on an image, and on the store that it holds

  next-room : (m : Made) (s : Store) → FitsMade m → InRoom s → InRoom (next initial m s)
  unfolding change
  next-room m s f h = go (refusal m.call s)
    where
      new : Store
      new = result initial m.call s

      room : (b : Bool) → m.room new ≡ b → InRoom (store_after (cond b (answer new) (refused 5)) s)
      room true e = f.room new e
      room false e = h

      go : (r : Option ℕ) → InRoom (store_after (if_room m.room (unless r new)) s)
      go None = room (m.room new) refl
      go (Some n) = h

  -- our calls on the image of a store do what the rules do on the store
  pub record Follows (calls : List Called) (s : Store) : Type 0 where
    pub image : image_after_all (ours initial) calls (write_image s) ≡ write_image (after initial (map made_of calls) s)
    pub room : InRoom (after initial (map made_of calls) s)
    pub tells : told_of (ours initial) calls (write_image s) ≡ told initial (map made_of calls) s
    pub within : ConditionsOf (ours initial) initial calls (write_image s) → Conditions initial (map made_of calls) s
    pub back : Conditions initial (map made_of calls) s → ConditionsOf (ours initial) initial calls (write_image s)

  module _ (ok : FitsInitial initial) where
    pub follows : (calls : List Called) (s : Store) → FitsStore s → InRoom s → Follows calls s
    unfolding after told image_after_all told_of
    follows [] s h room = record { image = refl; room = room; tells = refl; within = λ k. tt; back = λ k. tt }
    follows (c ∷ cs) s h room =
        let a = outcome initial (made_of c) s in
        let e : answered (ours initial) c (write_image s) ≡ map_answer write_image a = calls-change c.call (write_image s) c.target ∙ on-image (meant c.call) c.target s h room in
        let rest = follows cs (next initial (made_of c) s) (after-fits initial ok (made_of c ∷ []) s (made-fits c, tt) h) (next-room (made_of c) s (made-fits c) room) in
        record {
          image = rw (e, image-next a s) rest.image;
          room = rest.room;
          tells = rw (e, image-next a s, refused-alike a, rest.tells) refl;
          within = λ k. let l = rw (e, image-next a s, (one-image s h).0) at k in (accepted-alike (Condition initial (meant c.call) s) a l.0, rest.within l.1);
          back = λ k. rw (e, image-next a s, (one-image s h).0) (accepted-back (Condition initial (meant c.call) s) a k.0, rest.back k.1);
        }

    -- ---- demand 3

    -- the image of a store
    module _ (accepted : Accepted initial) where
      pub on_store : (s : Store) → FitsStore s → InRoom s → Orderly s → (calls : List Called) → ConditionsOf (ours initial) initial calls (write_image s)
          → Agrees (ours initial) initial s calls (write_image s)
      on_store s h room o calls k =
          let f = follows calls s h room in
          let t = after initial (map made_of calls) s in
          let e : read_image (image_after_all (ours initial) calls (write_image s)) ≡ got t [] =
          rw f.image (one-image t (after-fits initial ok (map made_of calls) s (all_fit calls) h)).0 in
          record {
            results = λ c. calls-change c.call (image_after_all (ours initial) calls (write_image s)) c.target;
            reads = λ q.
                calls-answer initial q (image_after_all (ours initial) calls (write_image s)) (rw f.image f.room) e
                ∙ demand-3-for initial accepted s o (map made_of calls) (f.within k) q
                ∙ ap (λ l. ask_table initial q (tell_all initial l (table_of initial s))) (sym f.tells);
          }

      pub demand-3-bytes-for : Meets-3 (ours initial) initial
      demand-3-bytes-for img s h calls k =
          let w = read-then-write img s h.holds in
          rw (← w) (on_store s (read_fits img s h.holds) (rw w h.short) h.orderly calls (rw (← w) at k))

    -- The image so far is an orderly one: the list may go on, and neither a call nor a read is refused by 1 or 2.
    pub stays-image : (img : List ℕ) (s : Store) → OrderlyImage img s → (calls : List Called) → ConditionsOf (ours initial) initial calls img
        → OrderlyImage (image_after_all (ours initial) calls img) (after initial (map made_of calls) s)
    stays-image img s h calls k =
        let w = read-then-write img s h.holds in
        let fits = read_fits img s h.holds in
        let f = follows calls s fits (rw w h.short) in
        let i : image_after_all (ours initial) calls img ≡ write_image (after initial (map made_of calls) s) = rw (← w) f.image in
        record {
          short = rw i f.room;
          holds = rw i (one-image (after initial (map made_of calls) s) (after-fits initial ok (map made_of calls) s (all_fit calls) fits)).0;
          orderly = stays-orderly initial s h.orderly (map made_of calls) (f.within (rw (← w) at k));
        }

-- DEMAND 3, on bytes
pub demand-3-bytes : Meets-3 (ours usual) usual
demand-3-bytes = demand-3-bytes-for usual usual-fits refl
