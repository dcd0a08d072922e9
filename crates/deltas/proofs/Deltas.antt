-- How records are read by value.
-- Assumes nothing.
use Rattle.std.specs.Prelude.{Result, Ok, Err, Option, None, Some}
use mathlib.Core.Path.{◌≡◌, ap}
use mathlib.Core.List.{List}
use Prim.Native.Nat.{ℕ, ◌+◌}
use native.Mathlib.Omega.{arith}
use lib.ListN.{length, length-append, length-drop}
use Rattle.wire.specs.declared.fault.Fault.{Fault}
use Rattle.wire.specs.declared.part.Part.{Part}
use Rattle.wire.specs.Parse.{Parsed, got, bind, bind-bind}
use Rattle.wire.specs.Reading.{Reads, meant}
use Rattle.wire.proofs.Readers.{read-then, read-stop, read-end}
use Rattle.image.specs.declared.kind.FileType.{FileType}
use Rattle.image.specs.Meaning.{Kind, Record, delta}
use Rattle.image.specs.FileTypes.{kind_meant, code_meant}
use Rattle.image.specs.RecordLayout.{fields, ChangePart, change_of, change_part, code_part, record_at, layer_record}
use Rattle.image.specs.KindLayout.{code}
use Rattle.nodes.specs.Fields.{holds_if, ReadsAs}
use Rattle.nodes.specs.Options.{Inside, InsideIf}
use Rattle.nodes.specs.Attrs.{fields_meant, ReadsAttr}
use Rattle.deltas.specs.Deltas.{attr_of, change_meant, delta_meant, ChangeListed, ReadsDelta, ReadsEntry}
use Rattle.nodes.specs.declared.attr.AttrDelta.{AttrDelta}
use Rattle.deltas.specs.declared.delta.NodeDelta.{NodeDelta}
use Rattle.deltas.specs.declared.delta.EntryDelta.{EntryDelta}
use Rattle.deltas.specs.declared.delta.EntryDelta.TheVariants as E
use Rattle.nodes.proofs.Values.{reads_made, reads_first, reads_same}
use Rattle.nodes.proofs.Reading.{reads-length}
use Rattle.image.proofs.Numbered.{code-length}
use Rattle.image.proofs.OneForm.{code-one, fields-one}

-- what a delta changes, where that is one field
module _ {V : Type 0} {img : List ℕ} {k : Kind} {at : ℕ} {a : AttrDelta} {says : V → ChangePart k} {Holds : V → ℕ → Type 0} {o : Result (V × ℕ) Fault}
    (h : ReadsAs img (change_part k).read says Holds at o) where
  pub field-stops : {r : Result (NodeDelta × ℕ) Fault} {f : Fault} → o ≡ Err f → r ≡ Err f → ReadsDelta img k a at r
  field-stops d e = let g = rw d at h in rw e (record { reads = read-stop _ g.reads; attr = tt; listed = tt })

  pub field-read : {v : V} {m : ℕ} (n : NodeDelta) → o ≡ Ok (v, m) → attr_of n ≡ a → change_meant img n ≡ change_of k (says v) → ChangeListed img n m
      → ReadsDelta img k a at (Ok (n, m))
  field-read {v} n d e c l =
      let g = rw d at h in
      let z : delta (delta_meant img n) ≡ delta (record { fields = fields_meant img a; change = change_of k (says v) }) = rw (e, c) in
      record { reads = rw z (reads_made _ (λ p. delta (record { fields = fields_meant img a; change = change_of k p })) g.reads); attr = e; listed = l }

-- a target that is read is inside the image
pub held-inside : (img : List ℕ) (end : ℕ) (o : Option Part) → holds_if (λ p e. Inside img p) o end → InsideIf img o
held-inside img end None h = h
held-inside img end (Some p) h = h

-- ---- records

-- the code, and what it says
abbrev parts_read : List ℕ → Parsed Record
parts_read s = bind (code.read s) (λ c r. bind ((code_part c).read r) (λ p t. got (record_at c p) t))

record-read : (s : List ℕ) → parts_read s ≡ layer_record.read s
unfolding layer_record
record-read s = simp bind-bind

code-byte : {img : List ℕ} {at : ℕ} {c : Option Kind} {next : ℕ} → Reads img code.read at (Ok (c, next)) → next ≡ at + 1
code-byte {c = c} h = omega (arith, code-length c, simp (length-drop, length-append) at (ap length (code-one.forth _ _ _ h.same).0), h.within)

module _ {img : List ℕ} {at : ℕ} where
  whole : {r : Result (Record × ℕ) Fault} → Reads img parts_read at r → Reads img layer_record.read at r
  whole g = reads_same record-read g

  stopped : {r : Result (EntryDelta × ℕ) Fault} {f : Fault} → r ≡ Err f → Reads img parts_read at (Err f) → ReadsEntry img at r
  stopped e g = rw e (record { reads = whole g; attributes = tt; lists = tt })

module _ {img : List ℕ} {at : ℕ} {o : Result (Option FileType × ℕ) Fault} (h : Reads img code.read at (meant code_meant o)) where
  pub code-stops : {r : Result (EntryDelta × ℕ) Fault} {f : Fault} → o ≡ Err f → r ≡ Err f → ReadsEntry img at r
  code-stops d e = stopped e (read-stop _ (rw d at h))

  module _ {c : Option FileType} {start : ℕ} (d : o ≡ Ok (c, start)) where
    pub reads-tombstone : c ≡ None → ReadsEntry img at (Ok (E.Tombstone, start))
    reads-tombstone z =
        let g = rw (d, z) at h in
        record { reads = whole (read-then _ g (read-end g.within)); attributes = tt; lists = tt }

    module _ {t : FileType} (z : c ≡ Some t) {u : Result (AttrDelta × ℕ) Fault} (g : ReadsAttr img start u) where
      -- what comes after the code of a kind
      after-code : {r : Result (Record × ℕ) Fault}
          → Reads img (λ s. bind ((code_part (Some (kind_meant t))).read s) (λ p t'. got (record_at (Some (kind_meant t)) p) t')) start r → Reads img
          parts_read at r
      after-code b = read-then _ (rw (d, z) at h) b

      pub fields-stop : {r : Result (EntryDelta × ℕ) Fault} {f : Fault} → u ≡ Err f → r ≡ Err f → ReadsEntry img at r
      fields-stop c e = let i = rw c at g in stopped e (after-code (read-stop _ (read-stop _ i.reads)))

      module _ {a : AttrDelta} {mid : ℕ} (y : u ≡ Ok (a, mid)) {v : Result (NodeDelta × ℕ) Fault} (k : ReadsDelta img (kind_meant t) a mid v) where
        pub change-stops : {r : Result (EntryDelta × ℕ) Fault} {f : Fault} → v ≡ Err f → r ≡ Err f → ReadsEntry img at r
        change-stops b e =
            let i = rw y at g in
            let j = rw b at k in
            stopped e (after-code (reads_first fields.read (change_part (kind_meant t)).read (λ x t'. got (record_at (Some (kind_meant t)) x) t') i.reads
            j.reads))

        pub reads-delta : {w : NodeDelta} {next : ℕ} → v ≡ Ok (w, next) → ReadsEntry img at (Ok (E.Node w, next))
        reads-delta {w} {next} b =
            let l = rw (d, z) at h in
            let i = rw y at g in
            let j = rw b at k in
            let s : start ≡ at + 1 = code-byte l in
            let m : mid ≡ at + 1 + length (fields.write (fields_meant img a)) = omega (arith, reads-length fields fields-one l.within i.reads) in
            record {
              reads =
                  whole (after-code (reads_first fields.read (change_part (kind_meant t)).read (λ x t'. got (record_at (Some (kind_meant t)) x) t') i.reads
                  j.reads));
              attributes = rw j.attr (rw m at i.listed);
              lists = j.listed;
            }
