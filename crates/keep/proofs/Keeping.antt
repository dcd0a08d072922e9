-- A list by name in step with the names that lead somewhere below: which rows stay.
-- Assumes nothing.
use Rattle.std.specs.Prelude.{None, Option, Some}
use mathlib.Core.Path.{◌≡◌, refl, sym, ap, ◌∙◌, subst}
use mathlib.Core.Bool.{Bool, true, false, cond}
use mathlib.Core.List.{List, [], ◌∷◌, ◌++◌}
use Prim.Native.Nat.{ℕ, zero, suc, ◌+◌, ◌-◌, ◌≤◌, ◌<◌}
use native.Mathlib.Omega.{arith}
use lib.ListN.{length, drop}
use Rattle.std.specs.declared.cmp.Ordering.{Ordering}
use Rattle.std.specs.declared.cmp.Ordering.TheVariants.{Less, Equal, Greater}
use Rattle.wire.specs.Parse.{got}
use Rattle.wire.specs.Combinators.{◌then◌}
use Rattle.wire.specs.Number.{edge, number_bytes}
use Rattle.wire.specs.Order.{Order}
use Rattle.wire.specs.Orders.{by_bytes}
use Rattle.wire.specs.Rows.{choose, lookup, Under, Rising}
use Rattle.wire.specs.RowLaws.{lookup-under, under-below, never-lt, ext}
use Rattle.wire.specs.Maps.{Map, get, keep, sift, get-keep}
use Rattle.wire.specs.Lists.{Every}
use Rattle.image.specs.Places.{rows_from}
use Rattle.change.proofs.Cutting.{chain-rows}
use Rattle.wire.specs.Put.{Put}
use Rattle.wire.proofs.Puts.{put-append, put-length}
use Rattle.image.specs.Meaning.{Text}
use Rattle.image.specs.FieldLayout.{name}
use Rattle.image.specs.Under.{UnderName, under}
use Rattle.image.specs.declared.name.Under as UnderN
use Rattle.nodes.specs.Options.{text_at}
use Rattle.wire.specs.declared.put.Written.{Written}
use Rattle.writers.proofs.Writing.{part-written, put-nothing}
use Rattle.rules.specs.Changes.{map_if}
use Rattle.lookup.specs.Search.{row_name, Standing, list_in, ListRows, Steps, ReadsRow}
use Rattle.lookup.specs.declared.list.NameList.{NameList}
use Rattle.image.specs.declared.name.RowRead.{RowRead}
use Rattle.lookup.specs.declared.rows.NameRows.{NameRows}
use Rattle.lookup.proofs.Searching.{list-is, Taken, row-taken, row-stepped}
use Rattle.merge.specs.Pile.{itself}
use Rattle.merge.specs.Sources.{sources_of}
use Rattle.merge.specs.Merges.{listed, given_in, given_of_row, gives_from, Gives}
use Rattle.merge.specs.declared.sources.Sources.{Sources}
use Rattle.merge.specs.declared.merge.Row.{Row}
use Rattle.merge.proofs.Piles.{rising-pile}
use Rattle.change.specs.Cuts.{rows_bytes}
use Rattle.change.specs.Sections.{between}
use Rattle.keep.specs.Below.{inode_given}
use Rattle.keep.specs.declared.keep.Names.{Names}
use Rattle.keep.specs.Keeps.{keeps, kept_map, kept_bytes, keep_rows, kept_rows, rows_kept}
use Rattle.keep.specs.Keeps.{names_of, leads_in, leads_from, leads_on, InStep, Sought, Keeps, PutsKept}
use Rattle.nodes.proofs.OneForm.{by_name-one}
use Rattle.wire.proofs.OneForm.{then-one}
use Rattle.image.proofs.OneForm.{name-one, under-one}

-- ---- rows that pass a test

module _ {K A : Type 0} (O : Order K) (p : K → A → Bool) where
  keep-under : (k : K) (l : List (K × A)) → Under O k l → Under O k (keep_rows p l)
  keep-under k [] u = tt
  keep-under k (e ∷ l) u = go (p e.0 e.1) (keep-under k l u.1)
    where
      go : (b : Bool) → Under O k (keep_rows p l) → Under O k (cond b (e ∷ keep_rows p l) (keep_rows p l))
      go true v = (u.0, v)
      go false v = v

  keep-rising : (l : List (K × A)) → Rising O l → Rising O (keep_rows p l)
  keep-rising [] r = tt
  keep-rising (e ∷ l) r = go (p e.0 e.1) (keep-rising l r.1)
    where
      go : (b : Bool) → Rising O (keep_rows p l) → Rising O (cond b (e ∷ keep_rows p l) (keep_rows p l))
      go true v = (keep-under e.0 l r.0, v)
      go false v = v

  keep-lookup : (k : K) (l : List (K × A)) → Rising O l → lookup O k (keep_rows p l) ≡ sift (p k) (lookup O k l)
  unfolding lookup
  keep-lookup k [] r = refl
  keep-lookup k (e ∷ l) r = go (p e.0 e.1) refl (O.cmp k e.0) refl (keep-lookup k l r.1)
    where
      go : (b : Bool) → p e.0 e.1 ≡ b → (d : Ordering) → O.cmp k e.0 ≡ d → lookup O k (keep_rows p l) ≡ sift (p k) (lookup O k l)
          → lookup O k (cond b (e ∷ keep_rows p l) (keep_rows p l)) ≡ sift (p k) (choose d (Some e.1) (lookup O k l))
      go true t Less q ih = rw q ih
      go true t Greater q ih = rw q ih
      go true t Equal q ih = rw (q, O.same k e.0 q, t)
      go false t Less q ih = ih
      go false t Greater q ih = ih
      go false t Equal q ih = rw (O.same k e.0 q, t) (lookup-under O e.0 (keep_rows p l) (keep-under e.0 l r.0))

  pub keep-are : (m : Map O A) → (keep O p m).rows ≡ keep_rows p m.rows
  unfolding get
  keep-are m =
      ext O (keep O p m).rows (keep_rows p m.rows) (keep O p m).rising (keep-rising m.rows m.rising)
      (λ k. get-keep O p k m ∙ sym (keep-lookup k m.rows m.rising))

-- ---- the names that lead somewhere, up to one

-- those of sources rise
pub sources-rise : (all : Sources) → Rising by_bytes (given_in all)
sources-rise all = rising-pile by_bytes (itself by_bytes) (sources_of all.img.now (listed all))

-- the first of them is read: with it, those that are left lead where all of them do
module _ {all : Sources} {first : Option Row} {rest : Sources} (g : Gives all first rest) where
  pub first-rises : Rising by_bytes (gives_from first rest)
  first-rises = subst (Rising by_bytes) g.gives (sources-rise all)

  leads_same : leads_from first rest ≡ leads_in all
  leads_same = ap {B = Text → Option ℕ} (λ names k. map_if inode_given (lookup by_bytes k names)) (sym g.gives)

  pub led-list : (list : NameList) {old new : List ℕ} {at q : ℕ} → Put old at (kept_bytes list (leads_from first rest)) q new
      → Put old at (kept_bytes list (leads_in all)) q new
  led-list list {old} {new} {at} {q} p = subst (λ (f : Text → Option ℕ). Put old at (kept_bytes list f) q new) leads_same p

-- those that are less are passed: what is left leads where it led at first
pub record Seeking (img : List ℕ) (n₀ : Names) (k : Text) (n : Names) : Type 0 where
  pub in_step : InStep img n
  pub same : (j : Text) → (by_bytes.cmp j k ≡ Less → ⊥) → leads_on n j ≡ leads_on n₀ j

not-less : (k : Text) → by_bytes.cmp k k ≡ Less → ⊥
not-less k z = never-lt _ z (by_bytes.self k)

pub seeking-start : {img : List ℕ} {n : Names} {k : Text} → InStep img n → Seeking img n k n
seeking-start s = record { in_step = s; same = λ j h. refl }

module _ {img : List ℕ} {n₀ : Names} {k : Text} {n : Names} (g : Seeking img n₀ k n) where
  found : {x : Option ℕ} → x ≡ leads_on n k → Sought img n₀ k x n
  found e = record { leads = e ∙ g.same k (not-less k); in_step = g.in_step; same = g.same }

  pub seeking-end : n.first ≡ None → Sought img n₀ k None n
  unfolding lookup
  seeking-end e = found (rw e)

  module _ (a : Row) (i : n.first ≡ Some a) where
    rows : names_of n ≡ given_of_row img a ∷ given_in n.rest
    rows = rw i (ap (λ x. given_of_row x a ∷ given_in n.rest) g.in_step.image)

    abbrev key : Text
    key = text_at img a.name

    module _ {x : Ordering} (d : x ≡ by_bytes.cmp key k) where
      seen : (y : Ordering) → x ≡ y → by_bytes.cmp key k ≡ y
      seen y t = sym d ∙ t

      pub seeking-equal : x ≡ Equal → Sought img n₀ k (Some a.given.inode) n
      unfolding lookup
      seeking-equal t = found (rw (rows, by_bytes.same key k (seen Equal t), by_bytes.self k))

      pub seeking-greater : x ≡ Greater → Sought img n₀ k None n
      seeking-greater t =
          let z = by_bytes.flip key k (seen Greater t) in
          let u = rw rows at g.in_step.rises in
          let below = under-below by_bytes k key (given_in n.rest) z u.0 in
          found (rw rows (ap (map_if inode_given) (sym (lookup-under by_bytes k (given_of_row img a ∷ given_in n.rest) (z, below)))))

      -- the first name is passed
      module _ (t : x ≡ Less) {first : Option Row} {rest : Sources} (s : Gives n.rest first rest) where
        pub seeking-more : Seeking img n₀ k (record { first = first; rest = rest })
        unfolding lookup
        seeking-more = record {
          in_step = record { image = s.image ∙ g.in_step.image; rises = first-rises s };
          same = λ j h. ap (λ (f : Text → Option ℕ). f j) (leads_same s) ∙ sym (passes j h) ∙ g.same j h;
        }
          where
            passes : (j : Text) → (by_bytes.cmp j k ≡ Less → ⊥) → leads_on n j ≡ leads_in n.rest j
            passes j h = rw rows (go (by_bytes.cmp j key) refl)
              where
                go : (y : Ordering) → by_bytes.cmp j key ≡ y
                    → map_if inode_given (choose y (Some (given_of_row img a).1) (lookup by_bytes j (given_in n.rest)))
                    ≡ leads_in n.rest j
                go Less q = refl
                go Greater q = refl
                go Equal q = absurd (h (rw (by_bytes.same j key q) (seen Less t)))

        -- one is left less
        pub seeking-less : length (gives_from first rest) < length (names_of n)
        seeking-less = rw (rows, ← s.gives) (omega arith)

-- ---- the rows that stay, one after the other

abbrev bytes_of : (u : UnderN.Under) → List (Text × UnderName u) → List ℕ
bytes_of u l = rows_bytes name (under u) l

-- of the rows `all` these are left, from here on
pub record Progress (img : List ℕ) (u : UnderN.Under) (f : Text → Option ℕ) (old : List ℕ) (at : ℕ) (all : List (Text × UnderName u)) (here left : ℕ)
    (names : Names) (buf : List ℕ) (k : Written) : Type 0 where
  pub prev : Option Text
  pub rows : List (Text × UnderName u)
  pub standing : Standing img u prev here left rows
  pub agree : Every (λ (e : Text × UnderName u). leads_on names e.0 ≡ f e.0) rows
  pub put : (r : ℕ) (new : List ℕ) → Put buf k.end (bytes_of u (kept_rows u f rows)) r new → Put old at (bytes_of u (kept_rows u f all)) r new
  pub counts : k.count + length (kept_rows u f rows) ≡ length (kept_rows u f all)

pub record Keeping (image img : List ℕ) (u : UnderN.Under) (f : Text → Option ℕ) (old : List ℕ) (at first total here left : ℕ) (names : Names)
    (buf : List ℕ) (k : Written) : Type 0 where
  pub in_step : InStep image names
  pub low : k.end ≤ edge
  pub same : length buf ≡ length old
  pub short : length old < edge
  pub kept : (l : List (Text × UnderName u)) → Standing img u None first total l → Progress img u f old at l here left names buf k

-- none is looked at yet
pub keeping-start : (n : Names) {image img : List ℕ} {u : UnderN.Under} → InStep image n
    → {old : List ℕ} {at here left total : ℕ}
    → at ≤ edge → length old < edge → left ≡ total
    → Keeping image img u (leads_on n) old at here total here left n old (record { end = at; count = 0 })
keeping-start n {u = u} s low short h = record {
  in_step = s;
  low = low;
  same = refl;
  short = short;
  kept = λ l w. record {
    prev = None;
    rows = l;
    standing = rw h w;
    agree = agree u l;
    put = λ r new p. p;
    counts = omega arith;
  };
}
  where
    agree : (u : UnderN.Under) (l : List (Text × UnderName u)) → Every (λ (e : Text × UnderName u). leads_on n e.0 ≡ leads_on n e.0) l
    agree u [] = tt
    agree u (e ∷ l) = (refl, agree u l)

-- no row is left
rows_end : {img : List ℕ} {u : UnderN.Under} {prev : Option Text} {here left : ℕ} {l : List (Text × UnderName u)}
    → left ≤ 0 → Standing img u prev here left l → l ≡ []
rows_end {img} {u} {prev} {here} {left} {l} h w = go left h l w.read
  where
    go : (n : ℕ) → n ≤ 0 → (l : List (Text × UnderName u)) → rows_from by_bytes name (under u) n prev (drop here img) ≡ got l w.rest → l ≡ []
    go (suc n) h l d = absurd (omega arith)
    go zero h [] d = refl
    go zero h (x ∷ l) d = cc

keep-few : {K A : Type 0} (p : K → A → Bool) (l : List (K × A)) → length (keep_rows p l) ≤ length l
keep-few p [] = omega arith
keep-few p (e ∷ l) = go (p e.0 e.1) (keep-few p l)
  where
    go : (b : Bool) → length (keep_rows p l) ≤ length l → length (cond b (e ∷ keep_rows p l) (keep_rows p l)) ≤ suc (length l)
    go true h = omega arith
    go false h = omega arith

module _ {image img : List ℕ} {u : UnderN.Under} {f : Text → Option ℕ} {old : List ℕ} {at first total here left : ℕ} {names : Names}
    {buf : List ℕ} {k : Written}
    (g : Keeping image img u f old at first total here left names buf k) where
  module _ (h : 0 < left) {r : RowRead} (w : ReadsRow img u here r) {x : Option ℕ} {seen : Names}
      (s : Sought image names (row_name img r) x seen) where
    -- the names after the row's are not less
    later : (l : List (Text × UnderName u)) → Under by_bytes (row_name img r) l → Every (λ (e : Text × UnderName u). leads_on names e.0 ≡ f e.0) l
        → Every (λ (e : Text × UnderName u). leads_on seen e.0 ≡ f e.0) l
    later [] v a = tt
    later (e ∷ l) v a =
        (s.same e.0 (λ z. never-lt _ (by_bytes.trans (row_name img r) e.0 (row_name img r) v.0 z) (by_bytes.self (row_name img r))) ∙ a.0, later l v.1 a.1)

    module _ {b : Bool} (d : Keeps img u x r.under b) where
      module _ (all : List (Text × UnderName u)) (q : Progress img u f old at all here left names buf k) (t : Taken img u left q.rows r w.value) where
        agrees : Every (λ (e : Text × UnderName u). leads_on names e.0 ≡ f e.0) ((row_name img r, w.value) ∷ t.others)
        agrees = rw t.are at q.agree

        decides : keeps u (f (row_name img r)) w.value ≡ b
        decides =
            let z : x ≡ f (row_name img r) = s.leads ∙ agrees.0 in
            sym (d.is w.value (drop r.next img) w.held ∙ rw z)

        row-bytes : between img here r.next ≡ name.write (row_name img r) ++ (under u).write w.value
        row-bytes =
            part-written (name then under u) (then-one name (under u) name-one (under-one u)) {a = (row_name img r, w.value)} q.standing.within
            (record { same = rw (w.named, w.held); within = w.within })

        rows_are : (y : Bool) → b ≡ y → kept_rows u f q.rows ≡ cond y ((row_name img r, w.value) ∷ kept_rows u f t.others) (kept_rows u f t.others)
        rows_are y e =
            ap (kept_rows u f) t.are
            ∙ ap (λ (y : Bool). cond y ((row_name img r, w.value) ∷ kept_rows u f t.others) (kept_rows u f t.others)) (decides ∙ e)

        stays-on : b ≡ true → {end : ℕ} {out : List ℕ} → Put buf k.end (between img here r.next) end out
            → Progress img u f old at all r.next (left - 1) seen out (record { end = end; count = k.count + 1 })
        unfolding rows_bytes
        stays-on e p = record {
          prev = Some (row_name img r);
          rows = t.others;
          standing = t.standing;
          agree = later t.others t.rise agrees.1;
          put = λ x new v. q.put x new (rw (rows_are true e) (put-append (rw row-bytes at p) v));
          counts = omega (arith, q.counts, ap length (rows_are true e));
        }

        drops-on : b ≡ false → Progress img u f old at all r.next (left - 1) seen buf k
        drops-on e = record {
          prev = Some (row_name img r);
          rows = t.others;
          standing = t.standing;
          agree = later t.others t.rise agrees.1;
          put = λ x new v. q.put x new (rw (rows_are false e) v);
          counts = omega (arith, q.counts, ap length (rows_are false e));
        }

      keeping-stays : b ≡ true → {end : ℕ} {out : List ℕ} → Put buf k.end (between img here r.next) end out
          → Keeping image img u f old at first total r.next (left - 1) seen out (record { end = end; count = k.count + 1 })
      keeping-stays e p = record {
        in_step = s.in_step;
        low = omega (arith, p.to);
        same = put-length p ∙ g.same;
        short = g.short;
        kept = λ l z. let q = g.kept l z in stays-on l q (row-taken w h q.standing) e p;
      }

      keeping-drops : b ≡ false → Keeping image img u f old at first total r.next (left - 1) seen buf k
      keeping-drops e = record {
        in_step = s.in_step;
        low = g.low;
        same = g.same;
        short = g.short;
        kept = λ l z. let q = g.kept l z in drops-on l q (row-taken w h q.standing) e;
      }

-- ---- the same of the rows that are left of a list

pub record KeepingRows (image : List ℕ) (f : Text → Option ℕ) (list : NameList) (old : List ℕ) (at : ℕ) (first rows : NameRows) (names : Names)
    (buf : List ℕ) (k : Written) : Type 0 where
  pub image_is : rows.img.now ≡ list.img.now
  pub sort : rows.what ≡ list.what
  pub keeping : Keeping image list.img.now list.what f old at first.rows.first first.rows.count rows.rows.first rows.rows.count names buf k

module _ {image : List ℕ} {f : Text → Option ℕ} {list : NameList} {old : List ℕ} {at : ℕ} {first rows : NameRows} {names : Names}
    {buf : List ℕ} {k : Written} (g : KeepingRows image f list old at first rows names buf k) where
  module _ {place : ℕ} {r : RowRead} {after : NameRows} (t : Steps rows place r after) {x : Option ℕ} {seen : Names}
      (s : Sought image names (row_name list.img.now r) x seen) {b : Bool} (d : Keeps list.img.now list.what x r.under b) where
    -- a row that stays is written
    pub row-stays : b ≡ true → {end : ℕ} {out : List ℕ} → Put buf k.end (between list.img.now place r.next) end out
        → {more : Written} → (more.end ≡ end) × (more.count ≡ k.count + 1) → KeepingRows image f list old at first after seen out more
    row-stays e p w = record {
      image_is = t.image ∙ g.image_is;
      sort = t.sort ∙ g.sort;
      keeping = rw (t.next, t.fewer, w.0, w.1) (keeping-stays g.keeping t.more (row-stepped g.image_is g.sort t) s d e (rw t.at at p));
    }

    pub row-drops : b ≡ false → KeepingRows image f list old at first after seen buf k
    row-drops e = record {
      image_is = t.image ∙ g.image_is;
      sort = t.sort ∙ g.sort;
      keeping = rw (t.next, t.fewer) (keeping-drops g.keeping t.more (row-stepped g.image_is g.sort t) s d e);
    }

-- ---- the list, all of whose rows were looked at

module _ (list : NameList) {image : List ℕ} {f : Text → Option ℕ} {old : List ℕ} {at here left : ℕ} {r : NameRows}
    {names : Names} {buf : List ℕ} {k : Written}
    (g : Keeping image list.img.now list.what f old at r.rows.first r.rows.count here left names buf k) (l : ListRows list r) where
  pub keeping_all : left ≤ 0 → PutsKept list f old at k buf
  unfolding rows_bytes
  keeping_all h =
      let q = g.kept (list_in list).rows l.standing in
      let z = rows_end h q.standing in
      record {
        put = q.put k.end buf (rw z (put-nothing (omega (arith, g.short, g.same)) (record { fits = omega (arith, g.low) })));
        count = omega (arith, q.counts, ap (λ (l : List (Text × UnderName list.what)). length (kept_rows list.what f l)) z);
      }

  -- there is no more than the list's count
  pub keeping-few : k.count < edge
  keeping-few =
      let q = g.kept (list_in list).rows l.standing in
      let there = list-is list.img.now list.what list.place list.listed in
      omega (arith, q.counts, keep-few (λ k v. keeps list.what (f k) v) (list_in list).rows, ((by_name-one list.what).forth _ _ _ there.1).1.0)

-- ---- the list

pub kept-list : (list : NameList) (f : Text → Option ℕ) {old new : List ℕ} {at q : ℕ}
    → Put old at (number_bytes (length (rows_kept list f)) ++ rows_bytes name (under list.what) (rows_kept list f)) q new
    → Put old at (kept_bytes list f) q new
kept-list list f p =
    let u = list.what in
    let t = list_in list in
    let e : (kept_map u f t).rows ≡ kept_rows u f t.rows = keep-are by_bytes (λ k v. keeps u (f k) v) t in
    rw (e, chain-rows by_bytes name (under u) None (kept_rows u f t.rows)) p
