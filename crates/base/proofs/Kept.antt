-- Whether a snapshot keeps the node at a place, told by its first numbers.
-- Assumes nothing.
use Rattle.std.specs.Prelude.{Result, Ok, Err}
use mathlib.Core.Path.{◌≡◌, sym, ap, ◌∙◌}
use mathlib.Core.Bool.{Bool}
use mathlib.Core.List.{List, ◌++◌, append_assoc}
use Prim.Native.Nat.{ℕ}
use lib.ListN.{drop}
use Rattle.wire.specs.declared.fault.Fault.{Fault}
use Rattle.wire.specs.Parse.{got, never-got}
use Rattle.wire.specs.Combinators.{◌then◌}
use Rattle.wire.specs.Lists.{last_count}
use Rattle.wire.specs.Number.{number_read}
use Rattle.wire.specs.Reading.{Reads, meant}
use Rattle.image.specs.Meaning as M
use Rattle.image.specs.Meaning.{Kind, kind_of}
use Rattle.image.specs.KindLayout.{kind}
use Rattle.image.specs.FileTypes.{kind_meant}
use Rattle.image.specs.FieldLayout.{word, moment, attributes}
use Rattle.image.specs.NodeLayout.{meta_parts, meta, body_part, body_part_of, node}
use Rattle.image.specs.Places.{Ends}
use Rattle.image.proofs.Passing.{ends-got, ends-fault}
use Rattle.image.proofs.OneForm.{node-one}
use Rattle.image.specs.declared.kind.FileType.{FileType}
use Rattle.base.specs.Nodes.{Keeps, KeptAt}

-- a node starts with its kind, permission and links
record Starts (s : List ℕ) (m : M.Node) : Type 0 where
  pub after_kind : List ℕ
  pub after_perm : List ℕ
  pub after_links : List ℕ
  pub kind_is : kind.read s ≡ got (kind_of m.body) after_kind
  pub perm_is : number_read last_count after_kind ≡ got m.meta.perm after_perm
  pub links_is : number_read last_count after_perm ≡ got m.meta.links after_links

-- owner, group, times and attributes, what the kind has, and what follows the node
abbrev rest_of : M.Node → List ℕ → List ℕ
rest_of m t =
    let rest = (word then word then moment then moment then moment then attributes).write (meta_parts m.meta).1.1 in
    (rest ++ (body_part (kind_of m.body)).write (body_part_of m.body)) ++ t

node-starts : (m : M.Node) (t : List ℕ)
    → node.write m ++ t ≡ kind.write (kind_of m.body) ++ (word.write m.meta.perm ++ (word.write m.meta.links ++ rest_of m t))
unfolding node meta
node-starts m t = simp append_assoc

starts : (s : List ℕ) (m : M.Node) (t : List ℕ) → node.read s ≡ got m t → Starts s m
unfolding node kind
starts s m t e =
    let f = node-one.forth s m t e in
    let links = word.write m.meta.links ++ rest_of m t in
    let perm = word.write m.meta.perm ++ links in
    record {
      after_kind = perm;
      after_perm = links;
      after_links = rest_of m t;
      kind_is = rw (f.0, node-starts) (kind.back (kind_of m.body) perm tt);
      perm_is = word.back m.meta.perm links f.1.meta.perm;
      links_is = word.back m.meta.links (rest_of m t) f.1.meta.links;
    }

module _ {img : List ℕ} {p : ℕ} {o : Result (FileType × ℕ) Fault} (h : Reads img kind.read p (meant kind_meant o)) where
  pub kept-unkind : {f : Fault} → o ≡ Err f → {r : Result Bool Fault} → KeptAt img p r
  kept-unkind d = let g = rw d at h in record { is = λ m t e. never-got (sym g.same ∙ (starts (drop p img) m t e).kind_is) }

  module _ {k : FileType} {a : ℕ} (d : o ≡ Ok (k, a)) where
    first : {m : M.Node} (x : Starts (drop p img) m) → (kind_meant k ≡ kind_of m.body) × (x.after_kind ≡ drop a img)
    first {m} x =
        let g = rw d at h in
        let z = sym x.kind_is ∙ g.same in
        let i : kind_meant k ≡ kind_of m.body = cc in
        let j : x.after_kind ≡ drop a img = cc in
        (i, j)

    module _ {u : Result ℕ Fault} (h2 : Ends img (number_read last_count) a u) where
      pub kept-unperm : {f : Fault} → u ≡ Err f → {r : Result Bool Fault} → KeptAt img p r
      kept-unperm e = let g = ends-fault (rw e at h2) in
          record { is = λ m t w. let x = starts (drop p img) m t w in never-got (sym g ∙ (rw (first x).1 at x.perm_is)) }

      module _ {b : ℕ} (d2 : u ≡ Ok b) where
        second : {m : M.Node} (x : Starts (drop p img) m) → x.after_perm ≡ drop b img
        second {m} x =
            let g = ends-got (rw d2 at h2) in
            let y = (first x).1 in
            let z = sym (rw y at x.perm_is) ∙ g.1 in
            cc

        module _ {v : Result (ℕ × ℕ) Fault} (h3 : Reads img (number_read last_count) b (meant (λ n. n) v)) where
          pub kept-unlinked : {f : Fault} → v ≡ Err f → {r : Result Bool Fault} → KeptAt img p r
          kept-unlinked e = let g = rw e at h3 in
              record { is = λ m t w. let x = starts (drop p img) m t w in never-got (sym g.same ∙ (rw (second x) at x.links_is)) }

          module _ {links c : ℕ} (d3 : v ≡ Ok (links, c)) where
            third : {m : M.Node} → Starts (drop p img) m → links ≡ m.meta.links
            third {m} x =
                let g = rw d3 at h3 in
                let z = sym (rw (second x) at x.links_is) ∙ g.same in
                cc

            pub kept-told : {b : Bool} → Keeps links k b → KeptAt img p (Ok b)
            kept-told h = record { is = λ m t w. let x = starts (drop p img) m t w in ap Ok (h.says m (sym (third x)) (first x).0) }
