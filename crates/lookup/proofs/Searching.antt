-- How a list by name is looked through, row by row.
-- Assumes nothing.
use Rattle.std.specs.Prelude.{Result, Ok, Err, IsOk, None, Option, Some}
use mathlib.Core.Path.{◌≡◌, refl, sym, ap, ◌∙◌, subst}
use mathlib.Core.List.{List, [], ◌∷◌}
use Prim.Native.Nat.{ℕ, zero, suc, ◌-◌, ◌≤◌, ◌<◌}
use native.Mathlib.Omega.{arith}
use lib.ListN.{drop}
use Rattle.wire.specs.declared.fault.Fault.{Fault}
use Rattle.std.specs.declared.cmp.Ordering.{Ordering}
use Rattle.std.specs.declared.cmp.Ordering.TheVariants.{Less, Equal, Greater}
use Rattle.wire.specs.Parse.{Parsed, fault, got, bind, never-got, bind_inv}
use Rattle.wire.specs.Number.{number_read}
use Rattle.wire.specs.Orders.{by_bytes}
use Rattle.wire.specs.Rows.{choose, lookup, Under}
use Rattle.wire.specs.RowLaws.{lookup-under, under-below, never-lt}
use Rattle.wire.specs.Maps.{Map, empty, get, as_map, rows-as_map}
use Rattle.wire.specs.Lists.{row, onto, rows, rising-read, mapped, last_count}
use Rattle.wire.specs.Reading.{Reads, ReadsPart}
use Rattle.image.specs.declared.name.Under as U
use Rattle.image.specs.Meaning.{Text}
use Rattle.image.specs.FieldLayout.{name}
use Rattle.image.specs.Under.{UnderName, under}
use Rattle.image.specs.Places.{rows_from, Holds}
use Rattle.image.proofs.Holding.{apart}
use Rattle.nodes.specs.Listed.{read_or, by_name, list_at, Listed}
use Rattle.wire.specs.declared.part.Part.{Part}
use Rattle.image.specs.Rows.{RowsAt}
use Rattle.image.specs.declared.rows.Rows.{Rows}
use Rattle.stack.specs.Stacks.{IsRead}
use Rattle.lookup.specs.Lists.{IsList, AreRows}
use Rattle.lookup.specs.declared.list.NameList.{NameList}
use Rattle.lookup.specs.declared.rows.NameRows.{NameRows}
use Rattle.image.specs.declared.name.RowRead.{RowRead}
use Rattle.image.specs.Rows as I
use Rattle.std.specs.Iterator.{at_most, MakesProgress}
use Rattle.lookup.specs.Search.{row_name, Standing, list_in, ListRows, Steps, ReadsRow, IsListOf, Finds}
use Rattle.wire.proofs.ListForms.{mapped-inv, chain-forth, row-one, all-rising}
use Rattle.image.proofs.OneForm.{name-one, under-one}

-- ---- what is read where something stands

module _ {A : Type 0} {img : List ℕ} {n : ℕ} {r : List ℕ} where
  pub read-ok : {p : List ℕ → Parsed A} {a : A} {o : Result (A × ℕ) Fault} → p (drop n img) ≡ got a r → Reads img p n o → IsOk o
  read-ok {p} {a} {o} e h = go o h
    where
      go : (o : Result (A × ℕ) Fault) → Reads img p n o → IsOk o
      go (Ok x) h = refl
      go (Err f) h = absurd (never-got (sym h.same ∙ e))

  pub read_same : {p : List ℕ → Parsed A} {a b : A} {m : ℕ} {o : Result (A × ℕ) Fault} → p (drop n img) ≡ got a r → Reads img p n o → o ≡ Ok (b, m) → b ≡ a
  read_same e h d = let g = rw d at h in cc (g.same, e)

-- ---- the count of a list, and its rows

module _ (u : U.Under) where
  counted : (s : List ℕ) {m : Map by_bytes (UnderName u)} {r : List ℕ} → (by_name u).read s ≡ got m r
      → (c : ℕ) × (t : List ℕ) × (number_read last_count s ≡ got c t) × ((q : List ℕ) × (rows_from by_bytes name (under u) c None t ≡ got m.rows q))
  unfolding rising-read
  counted s {m} d =
      let i =
      bind_inv ((rows by_bytes name (under u) last_count refl).read s) (λ l t. mapped by_bytes name (under u) last_count refl (as_map by_bytes l) t) d in
      let j = bind_inv (number_read last_count s) (λ c t. rows_from by_bytes name (under u) c None t) i.2 in
      let e : m.rows ≡ i.0 = rows-as_map by_bytes i.0 m (mapped-inv by_bytes name (under u) last_count refl (as_map by_bytes i.0) i.1 i.3).0 in
      (j.0, j.1, j.2, (i.1, j.3 ∙ ap (λ (l : List (Text × UnderName u)). got l i.1) (sym e)))

-- where a list was read, there is one
pub is-list : {img : List ℕ} {u : U.Under} {p : Part} {end : ℕ} → Listed img u p end → IsList img u p
is-list h = subst IsRead (sym h.is) tt

pub list-is : (img : List ℕ) (u : U.Under) (p : Part) → IsList img u p → (r : List ℕ) × ((by_name u).read (drop p.start img) ≡ got (list_at img u p) r)
list-is img u p h = go ((by_name u).read (drop p.start img)) h
  where
    go : (o : Parsed (Map by_bytes (UnderName u))) → IsRead o → (r : List ℕ) × (o ≡ got (read_or (empty by_bytes) o) r)
    go (fault f) h = absurd h
    go (got m r) h = (r, refl)

pub rows-listed : (l : NameList) {r : Rows} → RowsAt l.img.now last_count l.place.start r → Standing l.img.now l.what None r.first r.count (list_in l).rows
rows-listed l {r} h =
    let k = counted l.what (drop l.place.start l.img.now) (list-is l.img.now l.what l.place l.listed).1 in
    let z = h.counted k.0 k.1 k.2 in
    record { rest = k.3.0; read = rw (← z.0, ← z.1) at k.3.1; within = h.within }

-- what is found in the list of an image at a place
pub found-in : (l : NameList) (k : Text) (o : Option ℕ) {img : List ℕ} {u : U.Under} {p : Part} → IsListOf img u p l → Finds l k o
    → Holds img (under u).read o (get by_bytes k (list_at img u p))
found-in l k o {img} {u} {p} g f =
    let a = subst (λ (m : List ℕ). Holds m (under l.what).read o (get by_bytes k (list_at m l.what l.place))) g.image f in
    let b = subst (λ (v : U.Under). Holds img (under v).read o (get by_bytes k (list_at img v l.place))) g.sort a in
    subst (λ (q : Part). Holds img (under u).read o (get by_bytes k (list_at img u q))) g.at b

-- ---- a row

module _ (img : List ℕ) (u : U.Under) where
  -- rows that come after a key stand without it, too
  unkeyed : (n : ℕ) (prev : Option Text) (s : List ℕ) {l : List (Text × UnderName u)} {q : List ℕ}
      → rows_from by_bytes name (under u) n prev s ≡ got l q → rows_from by_bytes name (under u) n None s ≡ got l q
  unkeyed zero prev s d = d
  unkeyed (suc n) prev s d =
      let i = bind_inv ((row by_bytes name (under u) prev).read s) (λ a t. bind (rows_from by_bytes name (under u) n (Some a.0) t) (λ m q. got (a ∷ m) q)) d in
      let a = apart by_bytes name (under u) img [] prev s i.2 in
      rw (a.keyed, a.valued) i.3

  pub standing-rows : {prev : Option Text} {here n : ℕ} {l : List (Text × UnderName u)} → Standing img u prev here n l → AreRows img u here n
  standing-rows {prev} {here} {n} h = subst IsRead (sym (unkeyed n prev (drop here img) h.read)) tt

  are-rows : (first n : ℕ) → AreRows img u first n
      → (l : List (Text × UnderName u)) × (q : List ℕ) × (rows_from by_bytes name (under u) n None (drop first img) ≡ got l q)
  are-rows first n h = go (rows_from by_bytes name (under u) n None (drop first img)) h
    where
      go : (o : Parsed (List (Text × UnderName u))) → IsRead o → (l : List (Text × UnderName u)) × (q : List ℕ) × (o ≡ got l q)
      go (fault f) h = absurd h
      go (got l q) h = (l, q, refl)

-- a row stands at a place
pub record RowAt (img : List ℕ) (u : U.Under) (at : ℕ) : Type 0 where
  pub prev : Option Text
  pub said : Text × UnderName u
  pub rest : List ℕ
  pub read : (row by_bytes name (under u) prev).read (drop at img) ≡ got said rest

module _ {img : List ℕ} {u : U.Under} where
  rows-front : (n : ℕ) (prev : Option Text) {here : ℕ} {l : List (Text × UnderName u)} {q : List ℕ} → 0 < n
      → rows_from by_bytes name (under u) n prev (drop here img) ≡ got l q → RowAt img u here
  rows-front zero prev h d = absurd (omega arith)
  rows-front (suc n) prev {here} h d =
      let i =
      bind_inv ((row by_bytes name (under u) prev).read (drop here img))
      (λ a t. bind (rows_from by_bytes name (under u) n (Some a.0) t) (λ m q. got (a ∷ m) q)) d in
      record { prev = prev; said = i.0; rest = i.1; read = i.2 }

  pub row-there : {here left : ℕ} → AreRows img u here left → 0 < left → RowAt img u here
  row-there {here} {left} h l = let k = are-rows img u here left h in rows-front left None l k.2

  module _ {at : ℕ} (w : RowAt img u at) where
    said-there : (t : List ℕ) × (name.read (drop at img) ≡ got w.said.0 t) × ((under u).read t ≡ got w.said.1 w.rest)
    said-there = let a = apart by_bytes name (under u) img [] w.prev (drop at img) w.read in (a.mid, a.keyed, a.valued)

    -- so that it is read
    pub row-ok : {o : Result RowRead Fault} → I.ReadsRow img u at o → IsOk o
    row-ok {o} g = go o g
      where
        stop : (f : Fault) (o : Result (Part × ℕ) Fault) → ReadsPart img name.read at o → I.RowAfter img u (Err f) o → ⊥
        stop f (Ok n) g h =
            let a = said-there in
            let e : a.0 ≡ drop n.1 img = cc (g.same, a.1) in
            let k = rw e at a.2 in
            let z = rw k at h.same in
            never-got (sym z)
        stop f (Err e) g h = let a = said-there in never-got (sym g.same ∙ a.1)

        go : (o : Result RowRead Fault) → I.ReadsRow img u at o → IsOk o
        go (Ok r) g = refl
        go (Err f) g = absurd (stop f g.name g.named g.after)

    pub row-read : {r : RowRead} → I.ReadsRow img u at (Ok r) → ReadsRow img u at r
    row-read {r} g =
        let a = said-there in
        let named = rw g.after.0 at g.named in
        let e : a.0 ≡ drop r.under img = cc (named.same, a.1) in
        let k : (under u).read (drop r.under img) ≡ got w.said.1 w.rest = rw e at a.2 in
        let z = rw k at g.after.1.same in
        let d : w.rest ≡ drop r.next img = cc z in
        record { value = w.said.1; named = named.same; held = k ∙ ap (λ (t : List ℕ). got w.said.1 t) d; within = g.after.1.within }

-- the first of the rows, and those after it
pub record Taken (img : List ℕ) (u : U.Under) (left : ℕ) (rows : List (Text × UnderName u)) (r : RowRead) (value : UnderName u) : Type 0 where
  pub others : List (Text × UnderName u)
  pub are : rows ≡ (row_name img r, value) ∷ others
  pub standing : Standing img u (Some (row_name img r)) r.next (left - 1) others
  pub rise : Under by_bytes (row_name img r) others

module _ {img : List ℕ} {u : U.Under} where
  module _ {here : ℕ} {r : RowRead} (g : ReadsRow img u here r) where
    row_first : (prev : Option Text) (n : ℕ) (e : Text × UnderName u) (t : List ℕ) (others : List (Text × UnderName u)) (q : List ℕ)
        → (row by_bytes name (under u) prev).read (drop here img) ≡ got e t
        → rows_from by_bytes name (under u) n (Some e.0) t ≡ got others q → Taken img u (suc n) (e ∷ others) r g.value
    row_first prev n e t others q d b =
        let a = apart by_bytes name (under u) img [] prev (drop here img) d in
        let ek : e.0 ≡ (row_name img r) = cc (a.keyed, g.named) in
        let em : a.mid ≡ drop r.under img = cc (a.keyed, g.named) in
        let v : (under u).read (drop r.under img) ≡ got e.1 t = rw em at a.valued in
        let ev : e.1 ≡ g.value = cc g.held in
        let et : t ≡ drop r.next img = cc g.held in
        let k : rows_from by_bytes name (under u) n (Some (row_name img r)) (drop r.next img) ≡ got others q = rw (ek, et) at b in
        let f =
        chain-forth (row by_bytes name (under u)) (onto by_bytes name (under u)) (row-one by_bytes name (under u) name-one (under-one u)) n
        (Some (row_name img r)) (drop r.next img) others q k in
        let z : suc n - 1 ≡ n = omega arith in
        record {
          others = others;
          are = λ x. (ek x, ev x) ∷ others;
          standing = record { rest = q; read = rw z k; within = g.within };
          rise = (all-rising by_bytes name (under u) (Some (row_name img r)) others f.1.1).0;
        }

    rows-taken : (prev : Option Text) (n : ℕ) {l : List (Text × UnderName u)} {q : List ℕ} → 0 < n
        → rows_from by_bytes name (under u) n prev (drop here img) ≡ got l q → Taken img u n l r g.value
    rows-taken prev zero h d = absurd (omega arith)
    rows-taken prev (suc n) h d =
        let i =
        bind_inv ((row by_bytes name (under u) prev).read (drop here img))
        (λ a t. bind (rows_from by_bytes name (under u) n (Some a.0) t) (λ m q. got (a ∷ m) q)) d in
        let j = bind_inv (rows_from by_bytes name (under u) n (Some i.0.0) i.1) (λ m q. got (i.0 ∷ m) q) i.3 in
        subst (λ l. Taken img u (suc n) l r g.value) (cc j.3) (row_first prev n i.0 i.1 j.0 j.1 i.2 j.2)

    pub row-taken : {prev : Option Text} {left : ℕ} {l : List (Text × UnderName u)} → 0 < left → Standing img u prev here left l → Taken img u left l r g.value
    row-taken {prev} {left} {l} h w = rows-taken prev left h w.read

-- those after a row stand
pub rows-on : {img : List ℕ} {u : U.Under} {here left : ℕ} {r : RowRead} → AreRows img u here left → 0 < left → ReadsRow img u here r
    → AreRows img u r.next (left - 1)
rows-on {img} {u} {here} {left} {r} h l g =
    let k = are-rows img u here left h in
    let t = rows-taken g None left l k.2 in
    standing-rows img u t.standing

-- the iterator's step
module _ {rows after : NameRows} {row : RowRead} where
  pub fewer-rows : {place : ℕ} → Steps rows place row after
      → MakesProgress {A = ℕ × RowRead} (λ (r : NameRows). Unit {0}) (λ (r : NameRows). at_most r.rows.count) rows (Some (place, row)) after
  fewer-rows s = record { on = λ f. (tt, f, rw s.fewer (let m = s.more in omega arith)); keeps = tt; rests = λ f. tt }

-- ---- what rows have under a name

-- a name that is less isn't the one sought
passes : {A : Type 0} (a k : Text) (x y : A) → by_bytes.cmp a k ≡ Less → choose (by_bytes.cmp k a) x y ≡ y
passes {A} a k x y e = go (by_bytes.cmp k a) refl
  where
    go : (c : Ordering) → by_bytes.cmp k a ≡ c → choose c x y ≡ y
    go Less d = refl
    go Greater d = refl
    go Equal d = let z : k ≡ a = by_bytes.same k a d in absurd (never-lt (by_bytes.cmp a k) e (rw z (by_bytes.self a)))

pub record Seeks (img : List ℕ) (u : U.Under) (k : Text) (here left : ℕ) (o : Option (UnderName u)) : Type 0 where
  pub prev : Option Text
  pub rows : List (Text × UnderName u)
  pub standing : Standing img u prev here left rows
  pub has : lookup by_bytes k rows ≡ o

module _ {img : List ℕ} {u : U.Under} {k : Text} where
  pub seeks-list : (p : Part) {first n : ℕ} → Standing img u None first n (list_at img u p).rows → Seeks img u k first n (get by_bytes k (list_at img u p))
  unfolding get
  seeks-list p h = record { prev = None; rows = (list_at img u p).rows; standing = h; has = refl }

  module _ {here left : ℕ} {o : Option (UnderName u)} (w : Seeks img u k here left o) where
    pub seeks-end : left ≤ 0 → o ≡ None
    unfolding lookup
    seeks-end h = go left h w.rows w.standing.read w.has
      where
        go : (n : ℕ) → n ≤ 0 → (l : List (Text × UnderName u))
            → rows_from by_bytes name (under u) n w.prev (drop here img) ≡ got l w.standing.rest → lookup by_bytes k l ≡ o
            → o ≡ None
        go (suc n) h l d e = absurd (omega arith)
        go zero h [] d e = sym e
        go zero h (x ∷ l) d e = cc

    module _ (h : 0 < left) {r : RowRead} (g : ReadsRow img u here r) where
      taken : Taken img u left w.rows r g.value
      taken = row-taken g h w.standing

      has-row : lookup by_bytes k (((row_name img r), g.value) ∷ taken.others) ≡ o
      has-row = rw taken.are at w.has

      pub seeks-on : by_bytes.cmp (row_name img r) k ≡ Less → Seeks img u k r.next (left - 1) o
      unfolding lookup
      seeks-on e = record {
        prev = Some (row_name img r);
        rows = taken.others;
        standing = taken.standing;
        has = sym (passes (row_name img r) k (Some g.value) (lookup by_bytes k taken.others) e) ∙ has-row;
      }

      pub seeks-here : by_bytes.cmp (row_name img r) k ≡ Equal → o ≡ Some g.value
      unfolding lookup
      seeks-here e =
          let z : (row_name img r) ≡ k = by_bytes.same (row_name img r) k e in
          let d : by_bytes.cmp k (row_name img r) ≡ Equal = rw z (by_bytes.self k) in
          sym (rw d at has-row)

      pub seeks-past : by_bytes.cmp (row_name img r) k ≡ Greater → o ≡ None
      seeks-past e =
          let d : by_bytes.cmp k (row_name img r) ≡ Less = by_bytes.flip (row_name img r) k e in
          sym has-row
          ∙ lookup-under by_bytes k (((row_name img r), g.value) ∷ taken.others) (d, under-below by_bytes k (row_name img r) taken.others d taken.rise)

-- ---- the rows left of a list, looked through for a name

pub row-stepped : {img : List ℕ} {u : U.Under} {rows : NameRows} → rows.img.now ≡ img → rows.what ≡ u → {place : ℕ} {row : RowRead} {after : NameRows}
    → Steps rows place row after → ReadsRow img u rows.rows.first row
row-stepped {img} {u} {rows} e d {row = row} s =
    subst (λ (v : U.Under). ReadsRow img v rows.rows.first row) d (subst (λ (m : List ℕ). ReadsRow m rows.what rows.rows.first row) e s.reads)

-- the name has this among them
pub record Sought (img : List ℕ) (u : U.Under) (k : Text) (o : Option (UnderName u)) (rows : NameRows) : Type 0 where
  pub image : rows.img.now ≡ img
  pub sort : rows.what ≡ u
  pub seeks : Seeks img u k rows.rows.first rows.rows.count o

module _ {img : List ℕ} {u : U.Under} {k : Text} {o : Option (UnderName u)} {rows : NameRows} (w : Sought img u k o rows) where
  pub sought-end : rows.rows.count ≡ 0 → o ≡ None
  sought-end e = seeks-end w.seeks (omega (arith, e))

  module _ {place : ℕ} {row : RowRead} {after : NameRows} (s : Steps rows place row after) where
    pub step-read : ReadsRow img u rows.rows.first row
    step-read = row-stepped w.image w.sort s

    pub sought-on : by_bytes.cmp (row_name img row) k ≡ Less → Sought img u k o after
    sought-on e = record { image = s.image ∙ w.image; sort = s.sort ∙ w.sort; seeks = rw (s.next, s.fewer) (seeks-on w.seeks s.more step-read e) }

    pub sought-past : by_bytes.cmp (row_name img row) k ≡ Greater → o ≡ None
    sought-past e = seeks-past w.seeks s.more step-read e

    pub sought-here : by_bytes.cmp (row_name img row) k ≡ Equal → o ≡ Some step-read.value
    sought-here e = seeks-here w.seeks s.more step-read e

pub sought-start : (l : NameList) (k : Text) {r : NameRows} → ListRows l r → Sought l.img.now l.what k (get by_bytes k (list_in l)) r
sought-start l k h = record { image = h.image; sort = h.sort; seeks = seeks-list l.place h.standing }

-- ---- what a place holds

module _ {A : Type 0} (img : List ℕ) (p : List ℕ → Parsed A) where
  pub held_none : (o : Option A) → Holds img p None o → o ≡ None
  held_none None h = refl
  held_none (Some a) h = absurd h

  pub held-some : (n : ℕ) (o : Option A) → Holds img p (Some n) o → (a : A) × (r : List ℕ) × (o ≡ Some a) × (p (drop n img) ≡ got a r)
  held-some n None h = absurd h
  held-some n (Some a) h = (a, h.0, refl, h.1)
