-- The code that merges two lists of attribute changes.
-- Assumes nothing.
use Rattle.std.specs.Prelude.{Result, Ok, Err, None, Option, Some}
use Rattle.std.specs.Result.{result_ok}
use Rattle.std.specs.Borrow.{Bor}
use Rattle.std.proofs.lemmas.Option.{none-some}
use mathlib.Core.Path.{◌≡◌, refl, sym, ap, ◌∙◌}
use mathlib.Core.List.{List, [], ◌++◌, append_assoc}
use Prim.Native.Nat.{ℕ, zero, suc, ◌+◌, ◌≤◌, ◌<◌}
use native.Mathlib.Omega.{arith}
use lib.ListN.{length, drop, length-append, length-drop}
use Rattle.std.specs.declared.cmp.Ordering.TheVariants.{Less, Equal, Greater}
use Rattle.wire.specs.declared.fault.Fault.{Fault}
use Rattle.wire.specs.declared.part.Part.{Part}
use Rattle.wire.specs.Orders.{by_bytes}
use Rattle.wire.specs.Parse.{Parsed, fault, got}
use Rattle.wire.specs.Number.{edge, number_bytes, number_read}
use Rattle.wire.specs.Lists.{last_count}
use Rattle.wire.specs.Reading.{ReadsPart}
use Rattle.wire.specs.Put.{Put}
use Rattle.wire.proofs.Puts.{put-append, put-length}
use Rattle.image.specs.Meaning.{Text}
use Rattle.image.specs.Masks.{maybe}
use Rattle.image.specs.FieldLayout.{name, value}
use Rattle.image.specs.Rows.{RowsAt, ReadsRow, RowAfter}
use Rattle.image.specs.declared.name.RowRead.{RowRead}
use Rattle.image.specs.declared.name.Under.TheVariants as U
use Rattle.image.proofs.Passing.{ends-got, ends-fault}
use Rattle.nodes.specs.Options.{text_at}
use Rattle.change.specs.Sections.{Spans, between}
use Rattle.change.specs.Cuts.{rows_below, rows_above, rows_bytes}
use Rattle.meld.specs.Merged.{melded, change_bytes, or_end, rows_read, rows_in, RowsFrom, Leads, RowIs}
use Rattle.meld.specs.Merged.{both_rows, left_in, Goes, Gives, PutsRows, counted_bytes, merged_bytes}
use Rattle.meld.specs.declared.left.Left.{Left}
use Rattle.meld.specs.declared.left.Both.{Both}
use Rattle.meld.specs.declared.row.Row.{Row}
use Rattle.change.proofs.Sections.{span-part}
use Rattle.image.proofs.OneForm.{name-one, value-one, maybe-one}

-- ---- the first row of a list

-- what an answer is, by its `ok`
module _ {A : Type 0} where
  pub stopped : (o : Result A Fault) {x : Option A} → x ≡ result_ok o → x ≡ None → (f : Fault) × (o ≡ Err f)
  stopped (Ok a) e d = absurd (none-some a (sym d ∙ e))
  stopped (Err f) e d = (f, refl)

  pub gave : (o : Result A Fault) {x : Option A} {a : A} → x ≡ result_ok o → x ≡ Some a → o ≡ Ok a
  gave (Ok a) e d = cc
  gave (Err f) e d = absurd (none-some _ (sym e ∙ d))

pub rows-from : {at : ℕ} (l : Left) → RowsAt l.bytes.now last_count at l.rows → RowsFrom l.bytes.now at l
unfolding rows_read
rows-from {at} l h = record { bytes_are = refl; few = h.few; are = go (number_read last_count (drop at l.bytes.now)) refl }
  where
    go : (p : Parsed ℕ) → number_read last_count (drop at l.bytes.now) ≡ p → rows_in l ≡ or_end p rows_read
    go (got n s) q = let z = h.counted n s q in rw (z.0, z.1)
    go (fault f) q = let z = h.uncounted f q in rw (z.0)

pub row-none : {l : Left} → l.rows.count ≡ 0 → RowIs l None
unfolding rows_read
row-none e = record { is = rw e }

module _ {l : Left} where
  row-unnamed : {f : Fault} → name.read (drop l.rows.first l.bytes.now) ≡ fault f → RowIs l None
  unfolding rows_read
  row-unnamed {f} h = record { is = go l.rows.count h }
    where
      go : (m : ℕ) → name.read (drop l.rows.first l.bytes.now) ≡ fault f → rows_read m (drop l.rows.first l.bytes.now) ≡ []
      go zero e = refl
      go (suc m) e = rw e

  row-stopped : {t : Text} {rest : List ℕ} {f : Fault} → name.read (drop l.rows.first l.bytes.now) ≡ got t rest → (maybe value).read rest ≡ fault f
      → RowIs l None
  unfolding rows_read
  row-stopped {t} {rest} {f} h p = record { is = go l.rows.count h p }
    where
      go : (m : ℕ) → name.read (drop l.rows.first l.bytes.now) ≡ got t rest → (maybe value).read rest ≡ fault f
          → rows_read m (drop l.rows.first l.bytes.now) ≡ []
      go zero r e = refl
      go (suc m) r e = rw (r, e)

  pub row-unread : {o : Result RowRead Fault} {f : Fault} → ReadsRow l.bytes.now U.Change l.rows.first o → o ≡ Err f → RowIs l None
  row-unread {f = f} k e = go k.name k.named (rw e at k.after)
    where
      go : (u : Result (Part × ℕ) Fault) → ReadsPart l.bytes.now name.read l.rows.first u → RowAfter l.bytes.now U.Change (Err f) u → RowIs l None
      go (Ok (t, start)) h p = row-stopped h.same (ends-fault p)
      go (Err g) h p = row-unnamed h.same

  -- the name, and what stands under it
  leads-to : (t : Part) (m end n : ℕ) (v : Option Text) → l.rows.count ≡ suc n
      → name.read (drop l.rows.first l.bytes.now) ≡ got (text_at l.bytes.now t) (drop m l.bytes.now)
      → (maybe value).read (drop m l.bytes.now) ≡ got v (drop end l.bytes.now) → end ≤ length l.bytes.now
      → {r : Row} → r.name.now ≡ text_at l.bytes.now t → r.bytes.now ≡ between l.bytes.now l.rows.first end → r.rest.bytes.now ≡ l.bytes.now
      → r.rest.rows.first ≡ end → r.rest.rows.count ≡ n → Leads l r
  unfolding rows_read
  leads-to t m end n v c r p h named spelled whole on fewer =
      let bytes = l.bytes.now in
      let first = l.rows.first in
      let k = text_at bytes t in
      let a = name-one.forth (drop first bytes) k (drop m bytes) r in
      let b = (maybe-one value value-one).forth (drop m bytes) v (drop end bytes) p in
      let w = change_bytes (k, v) in
      let d : drop first bytes ≡ w ++ drop end bytes =
      a.0 ∙ ap (λ (t : List ℕ). name.write k ++ t) b.0 ∙ sym (append_assoc (name.write k) ((maybe value).write v) (drop end bytes)) in
      let span : Spans bytes first w end = record {
        is = d;
        ends = omega (
          arith,
          ap length d,
          length-append w (drop end bytes),
          length-drop first bytes,
          length-drop end bytes,
          h,
          a.1.0,
          length-append (name.write k) ((maybe value).write v),
          length-append (number_bytes (length k)) k,
        );
        within = h;
      } in
      record {
        change = v;
        is = ap (λ (x : ℕ). rows_read x (drop first bytes)) c ∙ rw (r, p, named, whole, on, fewer) refl;
        spells = rw named (spelled ∙ span-part span);
        same = whole;
        stands = rw on spelled;
        less = rw fewer (sym c);
      }

  pub row-first : {o : Result RowRead Fault} {w : RowRead} {n : ℕ} → ReadsRow l.bytes.now U.Change l.rows.first o → o ≡ Ok w → l.rows.count ≡ suc n
      → {r : Row} → r.name.now ≡ text_at l.bytes.now w.name → r.bytes.now ≡ between l.bytes.now l.rows.first w.next → r.rest.bytes.now ≡ l.bytes.now
      → r.rest.rows.first ≡ w.next → r.rest.rows.count ≡ n → RowIs l (Some r)
  row-first {w = w} {n} k e c named spelled whole on fewer =
      let f = rw e at k.after in
      let v = ends-got f.1 in
      record { is = leads-to w.name w.under w.next n v.0 c (rw (f.0) at k.named).same v.1 f.1.within named spelled whole on fewer }

-- ---- the next row of two lists

module _ {b rest : Both} {bytes : List ℕ} where
  module _ {r : Row} (e : bytes ≡ r.bytes.now) where
    -- the upper list alone has a row
    pub upper-goes : Leads b.upper r → rows_in b.lower ≡ [] → rest.upper ≡ r.rest → rest.lower ≡ b.lower → Goes b bytes rest
    unfolding melded rows_below rows_above
    upper-goes l d u v =
        record { row = (r.name.now, l.change); is = rw (l.is, d, u, v, d); spells = e ∙ l.spells; less = rw (u, v) (omega (arith, l.less)) }

    -- the lower has
    pub lower-goes : rows_in b.upper ≡ [] → Leads b.lower r → rest.upper ≡ b.upper → rest.lower ≡ r.rest → Goes b bytes rest
    unfolding melded
    lower-goes d l u v =
        record { row = (r.name.now, l.change); is = rw (u, v, d, l.is); spells = e ∙ l.spells; less = rw (u, v) (omega (arith, l.less)) }

  module _ {upper lower : Row} (l : Leads b.upper upper) (k : Leads b.lower lower) where
    pub goes-less : by_bytes.cmp upper.name.now lower.name.now ≡ Less
        → bytes ≡ upper.bytes.now → rest.upper ≡ upper.rest → rest.lower ≡ b.lower → Goes b bytes rest
    unfolding melded rows_below rows_above
    goes-less o e u v =
        record { row = (upper.name.now, l.change); is = rw (u, v, l.is, k.is, o); spells = e ∙ l.spells; less = rw (u, v) (omega (arith, l.less)) }

    pub goes-equal : by_bytes.cmp upper.name.now lower.name.now ≡ Equal
        → bytes ≡ upper.bytes.now → rest.upper ≡ upper.rest → rest.lower ≡ lower.rest → Goes b bytes rest
    unfolding melded rows_below rows_above
    goes-equal o e u v =
        record { row = (upper.name.now, l.change); is = rw (u, v, l.is, k.is, o); spells = e ∙ l.spells; less = rw (u, v) (omega (arith, l.less, k.less)) }

    pub goes-greater : by_bytes.cmp upper.name.now lower.name.now ≡ Greater
        → bytes ≡ lower.bytes.now → rest.upper ≡ b.upper → rest.lower ≡ lower.rest → Goes b bytes rest
    unfolding melded rows_below rows_above
    goes-greater o e u v =
        record { row = (lower.name.now, k.change); is = rw (u, v, l.is, k.is, o); spells = e ∙ k.spells; less = rw (u, v) (omega (arith, k.less)) }

module _ {l : Left} {o : Option Row} (a : RowIs l o) where
  pub ended : o ≡ None → rows_in l ≡ []
  ended e = (rw e at a).is

  pub leads : {r : Row} → o ≡ Some r → Leads l r
  leads e = (rw e at a).is

-- neither has
pub gives-none : {b : Both} {r : Option (Bor (List ℕ))} → rows_in b.upper ≡ [] → rows_in b.lower ≡ [] → r ≡ None → Gives b r b
unfolding melded
gives-none d e z = rw z (record { is = rw (d, e) })

-- ---- the loop

-- what is left, written from here on, makes the whole
pub record Merging (buf₀ : List ℕ) (at : ℕ) (all : Both) (buf : List ℕ) (left : Both) (end count : ℕ) : Type 0 where
  pub on : (q : ℕ) (l : List ℕ) → Put buf end (rows_bytes name (maybe value) (both_rows left)) q l
      → Put buf₀ at (rows_bytes name (maybe value) (both_rows all)) q l
  pub counts : count + length (both_rows left) ≡ length (both_rows all)
  pub few : count + left_in left ≤ left_in all
  pub low : end ≤ edge
  pub short : length buf < edge

module _ {buf₀ : List ℕ} {at : ℕ} {all left next : Both} {buf : List ℕ} {end count : ℕ} (m : Merging buf₀ at all buf left end count)
    {o : Option (Bor (List ℕ))} (t : Gives left o next) where
  module _ {bytes : Bor (List ℕ)} (e : o ≡ Some bytes) where
    goes : Goes left bytes.now next
    goes = (rw e at t).is

    pub merging-room : count + 1 ≤ edge
    merging-room = omega (arith, m.few, goes.less, all.few.0, all.few.1)

    pub merging-more : {buf' : List ℕ} {end' : ℕ} → Put buf end bytes.now end' buf' → Merging buf₀ at all buf' next end' (count + 1)
    unfolding rows_bytes
    merging-more p =
        let g = goes in
        let p = rw (g.spells) at p in
        record {
          on = λ q l x. m.on q l (rw (g.is) (put-append p x));
          counts = omega (arith, m.counts, ap length g.is);
          few = omega (arith, m.few, g.less);
          low = omega (arith, p.to);
          short = omega (arith, p.short, put-length p);
        }

  pub merging-all : o ≡ None → PutsRows all buf₀ at (record { end = end; count = count }) buf
  unfolding rows_bytes
  merging-all e =
      let z : both_rows left ≡ [] = (rw e at t).is in
      let x : Put buf end [] end buf = record { to = omega (arith, m.low); is = refl; short = m.short } in
      record { put = m.on end buf (rw z x); counts = omega (arith, m.counts, ap length z) }

-- the lists at two places, as they are read
pub both-counted : {img given : List ℕ} {new old : ℕ} (b : Both) → RowsFrom given new b.upper → RowsFrom img old b.lower
    → counted_bytes (both_rows b) ≡ merged_bytes img given new old
both-counted b u v = rw (u.are, v.are) refl
