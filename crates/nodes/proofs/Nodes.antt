-- How a node of the base is read, field by field.
-- Assumes nothing.
use mathlib.Core.Path.{◌≡◌, ap}
use mathlib.Core.List.{List}
use Rattle.std.specs.Prelude.{Result, Ok, Err}
use Prim.Native.Nat.{ℕ, ◌+◌}
use native.Mathlib.Omega.{arith}
use lib.ListN.{length, length-append, length-drop}
use Rattle.wire.specs.declared.fault.Fault.{Fault}
use Rattle.wire.specs.Parse.{Parsed, got, bind, bind-bind}
use Rattle.wire.specs.Reading.{Reads, meant}
use Rattle.wire.proofs.Readers.{read-then, read-stop, handed}
use Rattle.image.specs.Meaning.{Meta, Body, Kind, kind_number}
use Rattle.image.specs.Meaning as M
use Rattle.image.specs.KindLayout.{kind}
use Rattle.image.specs.FileTypes.{kind_meant}
use Rattle.image.specs.declared.kind.FileType.{FileType}
use Rattle.image.specs.NodeLayout.{BodyPart, meta, body_part, body_of, node}
use Rattle.nodes.specs.declared.node.InodeMeta.{InodeMeta}
use Rattle.nodes.specs.declared.node.NodeKind.{NodeKind}
use Rattle.nodes.specs.declared.node.Node.{Node}
use Rattle.nodes.specs.Fields.{ReadsAs}
use Rattle.nodes.specs.Nodes.{meta_meant, body_meant, body_read, EntriesListed, ReadsMeta, ReadsKind, ReadsNode}
use Rattle.nodes.proofs.Reading.{reads-length}
use Rattle.nodes.proofs.Values.{reads_made, reads_same}
use Rattle.image.proofs.OneForm.{kind-one, meta-one}
use Rattle.image.proofs.Numbered.{kind-length}

abbrev together : Meta → Body → M.Node
together m b = record { meta = m; body = b }

kind-byte : {img : List ℕ} {at : ℕ} {k : Kind} {next : ℕ} → Reads img kind.read at (Ok (k, next)) → next ≡ at + 1
kind-byte {k = k} h = omega (arith, kind-length k, simp (length-drop, length-append) at (ap length (kind-one.forth _ _ _ h.same).0), h.within)

-- kind, meta, and the body that the kind says
abbrev parts_read : List ℕ → Parsed M.Node
parts_read s = bind (kind.read s) (λ k r. bind (meta.read r) (λ m t. bind (body_read k t) (λ b u. got (together m b) u)))

node-read : (s : List ℕ) → parts_read s ≡ node.read s
unfolding node
node-read s = simp bind-bind

module _ {img : List ℕ} {at : ℕ} where
  whole : {r : Result (M.Node × ℕ) Fault} → Reads img parts_read at r → Reads img node.read at r
  whole g = reads_same node-read g

  stopped : {r : Result (Node × ℕ) Fault} {f : Fault} → r ≡ Err f → Reads img parts_read at (Err f) → ReadsNode img at r
  stopped e g = rw e (record { reads = whole g; attributes = tt; entries = tt })

module _ {img : List ℕ} {at : ℕ} {o : Result (FileType × ℕ) Fault} (h : Reads img kind.read at (meant kind_meant o)) where
  pub kind-stops : {r : Result (Node × ℕ) Fault} {f : Fault} → o ≡ Err f → r ≡ Err f → ReadsNode img at r
  kind-stops d e = stopped e (read-stop _ (rw d at h))

  module _ {t : FileType} {start : ℕ} (d : o ≡ Ok (t, start)) {u : Result (InodeMeta × ℕ) Fault} (g : ReadsMeta img start u) where
    pub meta-stops : {r : Result (Node × ℕ) Fault} {f : Fault} → u ≡ Err f → r ≡ Err f → ReadsNode img at r
    meta-stops c e = let i = rw c at g in stopped e (read-then _ (rw d at h) (read-stop _ i.reads))

    module _ {m : InodeMeta} {middle : ℕ} (c : u ≡ Ok (m, middle)) {v : Result (NodeKind × ℕ) Fault} (k : ReadsKind img (kind_meant t) middle v) where
      pub body-stops : {r : Result (Node × ℕ) Fault} {f : Fault} → v ≡ Err f → r ≡ Err f → ReadsNode img at r
      body-stops b e =
          let i = rw c at g in
          let j = rw b at k in
          stopped e (read-then _ (rw d at h) (read-then _ i.reads (read-stop _ j.reads)))

      pub reads-node : {b : NodeKind} {next : ℕ} → v ≡ Ok (b, next) → ReadsNode img at (Ok (record { meta = m; kind = b }, next))
      reads-node a =
          let l = rw d at h in
          let i = rw c at g in
          let j = rw a at k in
          let s : start ≡ at + 1 = kind-byte l in
          let z : middle ≡ at + 1 + length (meta.write (meta_meant img m)) = omega (arith, reads-length meta meta-one l.within i.reads) in
          record {
            reads = whole (read-then _ l (read-then _ i.reads (reads_made _ (together (meta_meant img m)) j.reads)));
            attributes = rw z at i.attributes;
            entries = j.entries;
          }

pub ruleset nodes = (kind-stops, meta-stops, body-stops, reads-node, handed)

-- ---- what a kind has of its own, where that is one field

module _ {V : Type 0} {img : List ℕ} {k : Kind} {at : ℕ} {says : V → BodyPart k} {Holds : V → ℕ → Type 0} {o : Result (V × ℕ) Fault}
    (h : ReadsAs img (body_part k).read says Holds at o) where
  pub own-stops : {r : Result (NodeKind × ℕ) Fault} {f : Fault} → o ≡ Err f → r ≡ Err f → ReadsKind img k at r
  own-stops d e = let g = rw d at h in rw e (record { reads = read-stop _ g.reads; entries = tt })

  pub own-read : {v : V} {n : ℕ} (b : NodeKind) → o ≡ Ok (v, n) → body_meant img b ≡ body_of k (says v) → EntriesListed img b n → ReadsKind img k at (Ok (b, n))
  own-read b d m l = let g = rw d at h in record { reads = rw m (reads_made _ (body_of k) g.reads); entries = l }
