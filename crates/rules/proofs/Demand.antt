-- Demand 3 on meanings.
use Rattle.std.specs.Prelude.{None, Option, Some}
use mathlib.Core.Path.{◌≡◌, refl, sym as inverse, ◌∙◌, ap}
use mathlib.Core.List.{List, [], ◌∷◌, ◌++◌, append_assoc}
use mathlib.Core.Bool.{Bool, true, false, cond}
use Prim.Native.Nat.{ℕ, zero, suc}
use Rattle.wire.specs.declared.time.Time.{Time}
use Rattle.wire.specs.Orders.{by_number}
use Rattle.wire.specs.Maps.{meet, empty, get, get-merge}
use Rattle.image.specs.Meaning.{Node, Base, Record, Layer, Batch, Store, directory, tombstone}
use Rattle.rules.specs.Initial.{Initial, Accepted, usual}
use Rattle.rules.specs.Fold.{fold_record}
use Rattle.rules.specs.Answers.{Answer, refused, answer, unless, is_refused}
use Rattle.rules.specs.Stacks.{stack_on, batch_layers, with_live, layers, over_base}
use Rattle.rules.specs.Reads.{look, type, base_type}
use Rattle.rules.specs.Views.{view}
use Rattle.rules.specs.Asks.{Ask, inode_of, reply, ask}
use Rattle.rules.specs.Calls.{Limits, Call}
use Rattle.rules.specs.Changes.{DirectoryChange, alter, map_if, on_directory, adding, removing, setting_parent, updated}
use Rattle.rules.specs.Normalise.{normal_batches, normal_live}
use Rattle.rules.specs.Queue.{type_below, frozen_batch, popped, fold_all, fold_front}
use Rattle.rules.specs.Refusals.{refusal}
use Rattle.rules.specs.Outcomes.{result, change, if_room}
use Rattle.rules.specs.Table.{Table, NodeChange, naming, parenting, change_node, update_node, table_of, effect, tell, tell_all, ask_table}
use Rattle.rules.specs.Orderly.{Orderly, OrderlyLayers, type_at, Insertable, Condition}
use Rattle.rules.specs.Demand.{Made, store_after, IfAccepted, outcome, next, after, told, Conditions, Demand-3}
use Rattle.rules.proofs.Laws.{type-law}
use Rattle.rules.proofs.Layers.{read_table, view-table, stack-empty, fold-table, fold-orderly, pop-orderly, pop-table, freeze-orderly, freeze-table}
use Rattle.rules.proofs.Local.{Right?, Acts, Sound, tombstone-acts, insert-acts, directory-acts, add-sound, remove-sound, parent-sound, update-acts}
use Rattle.rules.proofs.Lift.{lift-orderly, lift-table, live-right, live_table, below-orderly}
use Rattle.rules.proofs.Normal.{normal-table, normal-orderly}

no_node : (n : Option Node) → base_type n ≡ None → n ≡ None
no_node None e = refl
no_node (Some n) e = cc

layers-append : (bs : List Batch) (b : Batch) → batch_layers (bs ++ (b ∷ [])) ≡ batch_layers bs ++ (b.records ∷ [])
layers-append [] b = refl
layers-append (c ∷ bs) b = ap (λ l. c.records ∷ l) (layers-append bs b)

module _ (initial : Initial) where
  -- layers that are orderly over a base and fold to a table
  pub record Keeps (ls : List Layer) (base : Base) (t : Table) : Type 0 where
    pub orderly : OrderlyLayers ls base
    pub table : fold_all initial ls base ≡ t

  -- ---- the calls that do nothing to the table

  normalise-keeps : (under : List Layer) (base : Base) (bs : List Batch) (p : ℕ) (l : Layer) → OrderlyLayers (under ++ with_live bs l) base
      → Keeps (under ++ with_live (normal_batches under base bs p) (normal_live under base bs p l)) base (fold_all initial (under ++ with_live bs l) base)
  unfolding normal_batches normal_live
  normalise-keeps under base [] zero l o = record { orderly = normal-orderly initial under l [] base o; table = normal-table initial under l [] base o }
  normalise-keeps under base [] (suc p) l o = record { orderly = o; table = refl }
  normalise-keeps under base (b ∷ bs) zero l o = record { orderly = normal-orderly initial under b.records (with_live bs l) base o; table = normal-table initial under b.records (with_live bs l) base o }
  normalise-keeps under base (b ∷ bs) (suc p) l o =
      let more = under ++ (b.records ∷ []) in
      let e = append_assoc under (b.records ∷ []) (with_live bs l) in
      let f = append_assoc under (b.records ∷ []) (with_live (normal_batches more base bs p) (normal_live more base bs p l)) in
      let k = normalise-keeps more base bs p l (rw e o) in
      record { orderly = rw (← f) k.orderly; table = ap (λ z. fold_all initial z base) (inverse f) ∙ k.table ∙ ap (λ z. fold_all initial z base) e }

  fold-keeps : (bs : List Batch) (l : Layer) (base : Base) → OrderlyLayers (with_live bs l) base → Keeps (with_live bs l) (fold_front initial bs base) (fold_all initial (with_live bs l) base)
  fold-keeps [] l base o = record { orderly = o; table = refl }
  fold-keeps (b ∷ bs) l base o = record { orderly = fold-orderly initial b.records (with_live bs l) base o; table = fold-table initial b.records (with_live bs l) base }

  pop-keeps : (bs : List Batch) (l : Layer) (base : Base) → OrderlyLayers (with_live bs l) base → fold_front initial bs base ≡ base → Keeps (with_live (popped bs) l) base (fold_all initial (with_live bs l) base)
  pop-keeps [] l base o e = record { orderly = o; table = refl }
  pop-keeps (b ∷ bs) l base o e = record { orderly = pop-orderly initial b.records (with_live bs l) base o e; table = pop-table initial b.records (with_live bs l) base o e }

  freeze-keeps : (bs : List Batch) (b : Batch) (base : Base) → OrderlyLayers (with_live bs b.records) base
      → Keeps (with_live (bs ++ (b ∷ [])) (empty by_number)) base (fold_all initial (with_live bs b.records) base)
  freeze-keeps bs b base o =
      rw (layers-append bs b)
      (record { orderly = freeze-orderly initial (with_live bs b.records) base o; table = freeze-table initial (with_live bs b.records) base })

  -- ---- the calls that change a live record

  module _ (s : Store) (o : Orderly s) where
    -- what is beneath the live record of an inode
    abbrev beneath : ℕ → Option Node
    beneath i = get by_number i (fold_all initial (batch_layers s.batches) s.base)

    live-node : (i : ℕ) → get by_number i (table_of initial s) ≡ meet (fold_record initial) (get by_number i s.live) (beneath i)
    live-node i = rw (live_table, get-merge)

    shown : (i : ℕ) → type_at s i ≡ base_type (meet (fold_record initial) (get by_number i s.live) (beneath i))
    unfolding look
    shown i = read_table initial type (type-law initial) (layers s) s.base o i ∙ ap base_type (live-node i)

    shown-below : (i : ℕ) → type_below s i ≡ base_type (beneath i)
    unfolding look
    shown-below i = read_table initial type (type-law initial) (batch_layers s.batches) s.base (below-orderly initial (batch_layers s.batches) s.live s.base o) i

    live-ok : (i : ℕ) → Right? (get by_number i s.live) (base_type (beneath i))
    live-ok = live-right initial (batch_layers s.batches) s.live s.base o

    at-live : (i : ℕ) (h : Option Record → Option Record) (f : Option Node → Option Node) → Acts initial h f (get by_number i s.live) (beneath i)
        → Keeps (with_live s.batches (alter i h s.live)) s.base (alter i f (table_of initial s))
    at-live i h f act = record {
      orderly = lift-orderly initial (batch_layers s.batches) s.live s.base o i h f act;
      table = lift-table initial (batch_layers s.batches) s.live s.base o i h f act;
    }

    insert-ok : (i : ℕ) (r : Record) → Insertable i r s → Acts initial (λ o. Some r) (λ n. fold_record initial r None) (get by_number i s.live) (beneath i)
    insert-ok i r h =
        let e : beneath i ≡ None = no_node (beneath i) (let z = shown i in cc (h.missing, h.not_live)) in
        rw (h.not_live, e) (insert-acts initial r h.orderly)

    at-directory : (i : ℕ) (D : DirectoryChange) (N : NodeChange) → Sound D N → type_at s i ≡ Some directory
        → Keeps (with_live s.batches (alter i (on_directory D) s.live)) s.base (alter i (map_if (change_node N)) (table_of initial s))
    at-directory i D N S h =
        at-live i (on_directory D) (map_if (change_node N))
        (directory-acts initial D N S (get by_number i s.live) (beneath i) (live-ok i) (inverse (shown i) ∙ h))

    -- a call within its condition keeps the store orderly, and does to its table what the table does when it is told
    pub call-keeps : (c : Call) → Condition initial c s
        → Keeps (layers (result initial c s)) (result initial c s).base (effect initial c (table_of initial s))
    unfolding result effect
    call-keeps (Call.insert i None) h = record { orderly = o; table = refl }
    call-keeps (Call.insert i (Some r)) h = at-live i (λ o. Some r) (λ n. fold_record initial r None) (insert-ok i r h)
    call-keeps (Call.tombstone i) h = at-live i (λ o. Some tombstone) (λ n. None) (tombstone-acts initial _ _)
    call-keeps (Call.add i name inode t) h = at-directory i (adding name inode t) (naming name (Some inode) t) (add-sound name inode t) h
    call-keeps (Call.remove i name t) h = at-directory i (removing name t) (naming name None t) (remove-sound name t) h
    call-keeps (Call.set_parent i p) h = at-directory i (setting_parent p) (parenting p) (parent-sound p) h
    call-keeps (Call.update i None) h = record { orderly = o; table = refl }
    call-keeps (Call.update i (Some new)) h =
        at-live i (updated new (type_below s i)) (map_if (update_node new))
        (rw (shown-below i) (update-acts initial new (get by_number i s.live) (beneath i) (live-ok i) (rw (← (shown i)) h)))
    call-keeps (Call.normalise p) h = normalise-keeps [] s.base s.batches p s.live o
    call-keeps (Call.freeze limits t) h = freeze-keeps s.batches (frozen_batch t s) s.base o
    call-keeps Call.fold h = fold-keeps s.batches s.live s.base o
    call-keeps (Call.pop id) h = pop-keeps s.batches s.live s.base o h
    call-keeps (Call.note n) h = record { orderly = o; table = refl }
    call-keeps (Call.request r) h = record { orderly = o; table = refl }

    -- so these do nothing to the table
    pub normalise-nothing : (p : ℕ) → table_of initial (result initial (Call.normalise p) s) ≡ table_of initial s
    unfolding effect
    normalise-nothing p = (call-keeps (Call.normalise p) tt).table

    pub freeze-nothing : (limits : Limits) (t : Time) → table_of initial (result initial (Call.freeze limits t) s) ≡ table_of initial s
    unfolding effect
    freeze-nothing limits t = (call-keeps (Call.freeze limits t) tt).table

    pub fold-nothing : table_of initial (result initial Call.fold s) ≡ table_of initial s
    unfolding effect
    fold-nothing = (call-keeps Call.fold tt).table

    pub pop-nothing : (id : ℕ) → fold_front initial s.batches s.base ≡ s.base → table_of initial (result initial (Call.pop id) s) ≡ table_of initial s
    unfolding effect
    pop-nothing id h = (call-keeps (Call.pop id) h).table

    -- a call that may be refused, for want of room too, keeps the store orderly, and does to its table what the table does when it is told
    pub made-keeps : (m : Made) → IfAccepted (Condition initial m.call s) (outcome initial m s)
        → Keeps (layers (next initial m s)) (next initial m s).base (tell initial (is_refused (outcome initial m s)) m.call (table_of initial s))
    unfolding change
    made-keeps m = go (refusal m.call s)
      where
        new : Store
        new = result initial m.call s

        Whole : Answer Store → Type 0
        Whole a = IfAccepted (Condition initial m.call s) a
            → Keeps (layers (store_after a s)) (store_after a s).base (tell initial (is_refused a) m.call (table_of initial s))

        stays : (n : ℕ) → Whole (refused n)
        stays n h = record { orderly = o; table = refl }

        room : (b : Bool) → Whole (cond b (answer new) (refused 5))
        room true h = call-keeps m.call h
        room false h = stays 5 h

        go : (r : Option ℕ) → Whole (if_room m.room (unless r new))
        go (Some n) = stays n
        go None = room (m.room new)

  -- ---- a list of calls

  pub calls-keep : (calls : List Made) (s : Store) → Orderly s → Conditions initial calls s
      → Keeps (layers (after initial calls s)) (after initial calls s).base (tell_all initial (told initial calls s) (table_of initial s))
  unfolding after told tell_all
  calls-keep [] s o h = record { orderly = o; table = refl }
  calls-keep (m ∷ ms) s o h =
      let k = made-keeps s o m h.0 in
      let rest = calls-keep ms (next initial m s) k.orderly h.1 in
      record { orderly = rest.orderly; table = rest.table ∙ ap (tell_all initial (told initial ms (next initial m s))) k.table }

  -- a store's reads are those of its table, as of a base alone
  pub reads-table : Accepted initial → (s : Store) → Orderly s → (q : Ask) → ask initial q s ≡ ask_table initial q (table_of initial s)
  unfolding stack_on
  reads-table ok s o q =
      let i = inode_of q in
      ap (reply q) (view-table initial ok (layers s) s.base o i ∙ ap (λ rs. view initial i rs (get by_number i (table_of initial s))) (inverse (stack-empty i [])))

  -- the store stays orderly, so that the list may go on
  pub stays-orderly : (s : Store) → Orderly s → (calls : List Made) → Conditions initial calls s → Orderly (after initial calls s)
  stays-orderly s o calls h = (calls-keep calls s o h).orderly

  -- demand 3, for every accepted table of initial values
  pub demand-3-for : Accepted initial → Demand-3 initial
  demand-3-for ok s o calls h q =
      let k = calls-keep calls s o h in
      reads-table ok (after initial calls s) k.orderly q ∙ ap (ask_table initial q) k.table

-- DEMAND 3
pub demand-3 : Demand-3 usual
demand-3 = demand-3-for usual refl

-- whatever a base holds, it is orderly with nothing above it
pub base-orderly : (next : ℕ) (base : Base) → Orderly (over_base next base)
unfolding stack_on
base-orderly next base i = rw (stack-empty i []) tt
