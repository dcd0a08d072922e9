-- Fields merged into a live delta.
-- Assumes nothing.
use Rattle.wire.specs.declared.part.Part.{Part}
use Rattle.std.specs.Prelude.{Result, Ok, Err, None, Option, Some}
use Rattle.std.specs.Result.{result_unwrap_or}
use mathlib.Core.Path.{◌≡◌, refl, sym, ap, subst, ◌∙◌}
use mathlib.Core.List.{List, [], ◌++◌, append_assoc}
use Prim.Native.Nat.{ℕ, suc, ◌+◌}
use native.Mathlib.Omega.{arith}
use lib.ListN.{length}
use Rattle.wire.specs.declared.fault.Fault.{Fault}
use Rattle.wire.specs.Combinators.{count}
use Rattle.wire.specs.Number.{number_bytes}
use Rattle.wire.specs.Reading.{Reads, meant}
use Rattle.image.specs.declared.name.Under.TheVariants as U
use Rattle.image.specs.Meaning.{Changes as AttrChanges, Kind, Fields, Change, Delta, tombstone, delta, kind_number, changed_kind}
use Rattle.image.specs.Fits.{FitsRecord}
use Rattle.image.specs.FileTypes.{kind_meant, code_meant}
use Rattle.image.specs.KindLayout.{code}
use Rattle.image.specs.declared.kind.FileType.{FileType}
use Rattle.image.specs.RecordLayout.{fields, change_part, change_part_of, layer_record}
use Rattle.nodes.specs.Listed.{list_of, ListedIf}
use Rattle.nodes.specs.Attrs.{fields_meant, ReadsAttr}
use Rattle.nodes.specs.declared.attr.AttrDelta.{AttrDelta}
use Rattle.writers.specs.Writes.{part_bit, attr_bytes, fields_with, fields-with-bytes}
use Rattle.rules.specs.Reads.{or_else}
use Rattle.rules.specs.Changes.{merge_fields, merge_changes}
use Rattle.change.specs.Sections.{between, Spans}
use Rattle.meld.specs.Merged.{changes_anew}
use Rattle.fields.specs.Fields.{attr_over}
use Rattle.std.specs.Option.{option_or}
use Rattle.update.specs.Updates.{merged_delta, Onto}
use Rattle.overlay.specs.declared.record.NewChange.TheVariants as C
use Rattle.overlay.specs.declared.record.NewRecord.TheVariants as N
use Rattle.change.proofs.Sections.{span-part, span-front, span-back, span-reads, same_Ok}
use Rattle.meld.proofs.Melding.{changes-written}

-- ---- "field by field"

either-or : {A : Type 0} (a b : Option A) → option_or a b ≡ or_else a b
either-or (Some x) b = refl
either-or None b = refl

part-or : (img given : List ℕ) (a b : Option Part) → count (merge_changes (list_of given U.Change a) (list_of img U.Change b)) ≡ part_bit (option_or a b)
part-or img given (Some p) (Some q) = refl
part-or img given (Some p) None = refl
part-or img given None (Some q) = refl
part-or img given None None = refl

module _ (img given : List ℕ) (a b : AttrDelta) where
  abbrev both_changes : Option AttrChanges
  both_changes = merge_changes (list_of given U.Change a.xattrs) (list_of img U.Change b.xattrs)

  fields-over : fields_with (attr_over a b) both_changes ≡ merge_fields (fields_meant given a) (fields_meant img b)
  fields-over = λ j. record {
    mode = either-or a.mode b.mode j;
    owner = either-or a.uid b.uid j;
    group = either-or a.gid b.gid j;
    links = either-or a.nlink b.nlink j;
    atime = either-or a.atime b.atime j;
    mtime = either-or a.mtime b.mtime j;
    ctime = either-or a.ctime b.ctime j;
    created = either-or a.created_at b.created_at j;
    attributes = both_changes;
  }

  fields-over-bytes : (x y : ℕ) → ListedIf given U.Change a.xattrs x → ListedIf img U.Change b.xattrs y
      → attr_bytes (attr_over a b) ++ changes_anew img given a.xattrs b.xattrs ≡ fields.write (merge_fields (fields_meant given a) (fields_meant img b))
  fields-over-bytes x y h k =
      ap (λ (t : List ℕ). attr_bytes (attr_over a b) ++ t) (changes-written img given a.xattrs b.xattrs x y h k)
      ∙ sym (fields-with-bytes (attr_over a b) both_changes (part-or img given a.xattrs b.xattrs))
      ∙ ap fields.write fields-over

-- ---- the live record

-- what a delta writes after its fields
abbrev pub changed : Change → List ℕ
changed c = (change_part (changed_kind c)).write (change_part_of c)

pub delta-bytes : (f : Fields) (c : Change)
    → layer_record.write (delta (record { fields = f; change = c })) ≡ number_bytes (suc (kind_number (changed_kind c))) ++ (fields.write f ++ changed c)
unfolding layer_record code
delta-bytes f c = refl

dead-bytes : layer_record.write tombstone ≡ number_bytes 0 ++ []
unfolding layer_record code
dead-bytes = refl

abbrev code_of : Delta → ℕ
code_of d = suc (kind_number (changed_kind d.change))

module _ {img : List ℕ} {at : ℕ} (o : Result (Option FileType × ℕ) Fault) (n : Reads img code.read at (meant code_meant o)) where
  -- the code of a live tombstone
  dead-code : {after : ℕ} → Spans img at (layer_record.write tombstone) after → meant code_meant o ≡ Ok (None, at + length (number_bytes 0))
  unfolding code
  dead-code {after} w = span-reads code (span-front (number_bytes 0) [] (subst (λ (t : List ℕ). Spans img at t after) dead-bytes w)) tt n

  module _ (after : ℕ) (d : Delta) (w : Spans img at (layer_record.write (delta d)) after) where
    delta-span : Spans img at (number_bytes (code_of d) ++ (fields.write d.fields ++ changed d.change)) after
    delta-span = subst (λ (t : List ℕ). Spans img at t after) (delta-bytes d.fields d.change) w

    code_read : meant code_meant o ≡ Ok (Some (changed_kind d.change), at + length (number_bytes (code_of d)))
    unfolding code
    code_read = span-reads code (span-front (number_bytes (code_of d)) (fields.write d.fields ++ changed d.change) delta-span) tt n

    after-code : Spans img (at + length (number_bytes (code_of d))) (fields.write d.fields ++ changed d.change) after
    after-code = span-back (number_bytes (code_of d)) (fields.write d.fields ++ changed d.change) delta-span

  -- the code cannot be read
  pub onto-unread : {a : AttrDelta} {f : Fault} → o ≡ Err f → Onto img at a N.Tombstone
  onto-unread e = record {
    stays = λ after w. refl;
    merges = λ after d f w. absurd (let c = rw e at (code_read after d w) in let n : ◌≡◌ {A = ℕ} 0 1 = cc in omega arith);
  }

  module _ {x : Option FileType} {start : ℕ} (z : o ≡ Ok (x, start)) where
    code-is : (after : ℕ) (d : Delta) → Spans img at (layer_record.write (delta d)) after → code_meant x ≡ Some (changed_kind d.change)
    code-is after d w = ap (λ (y : Option Kind × ℕ). y.0) (same_Ok (rw z at (code_read after d w)))

    code-end : (after : ℕ) (d : Delta) → Spans img at (layer_record.write (delta d)) after → start ≡ at + length (number_bytes (code_of d))
    code-end after d w = ap (λ (y : Option Kind × ℕ). y.1) (same_Ok (rw z at (code_read after d w)))

    -- "does nothing on a live tombstone"
    pub onto-dead : {a : AttrDelta} → x ≡ None → Onto img at a N.Tombstone
    onto-dead e = record {
      stays = λ after w. refl;
      merges = λ after d f w. let c = rw e at (code-is after d w) in absurd (let n : ◌≡◌ {A = ℕ} 0 1 = cc in omega arith);
    }

    module _ {u : Result (AttrDelta × ℕ) Fault} (r : ReadsAttr img start u) where
      module _ (after : ℕ) (d : Delta) (f : FitsRecord (delta d)) (w : Spans img at (layer_record.write (delta d)) after) where
        fields_read : meant (fields_meant img) u ≡ Ok (d.fields, at + length (number_bytes (code_of d)) + length (fields.write d.fields))
        unfolding fields
        fields_read =
            span-reads fields (span-front (fields.write d.fields) (changed d.change) (after-code after d w)) f.fields
            (rw (code-end after d w) at r.reads)

      -- the fields cannot be read
      pub onto-nowhere : {a : AttrDelta} {f : Fault} → u ≡ Err f → Onto img at a N.Tombstone
      onto-nowhere d = record {
        stays = λ after w. refl;
        merges = λ after b f w. absurd (let c = fields_read after b f w in let z : ◌≡◌ {A = ℕ} 0 1 = cc in omega arith);
      }

      module _ {k : FileType} (y : x ≡ Some k) {b : AttrDelta} {end : ℕ} (g : u ≡ Ok (b, end)) where
        module _ (after : ℕ) (d : Delta) (f : FitsRecord (delta d)) (w : Spans img at (layer_record.write (delta d)) after) where
          fields-are : (fields_meant img b ≡ d.fields) × (end ≡ at + length (number_bytes (code_of d)) + length (fields.write d.fields))
          fields-are =
              let c = rw g at (fields_read after d f w) in
              let back : Result (Fields × ℕ) Fault → Fields × ℕ = λ o. result_unwrap_or o (d.fields, 0) in
              (ap (λ o. (back o).0) c, ap (λ o. (back o).1) c)

          change-span : between img end after ≡ changed d.change
          change-span = rw (fields-are.1) (span-part (span-back (fields.write d.fields) (changed d.change) (after-code after d w)))

          -- the delta with the fields given over its own
          merged-bytes : (a : AttrDelta) (given : List ℕ) (last : ℕ) → ListedIf given U.Change a.xattrs last
              → number_bytes (suc (kind_number (kind_meant k)))
              ++ (attr_bytes (attr_over a b) ++ (changes_anew img given a.xattrs b.xattrs ++ between img end after))
              ≡ layer_record.write (merged_delta given a d)
          merged-bytes a given last h =
              let s : code_meant (Some k) ≡ Some (changed_kind d.change) = rw y at (code-is after d w) in
              let c : kind_meant k ≡ changed_kind d.change = cc in
              let m = changes_anew img given a.xattrs b.xattrs in
              (λ j. number_bytes (suc (kind_number (c j))) ++ (attr_bytes (attr_over a b) ++ (m ++ change-span j)))
              ∙ ap (λ (l : List ℕ). number_bytes (code_of d) ++ l) (sym (append_assoc (attr_bytes (attr_over a b)) m (changed d.change)))
              ∙ ap (λ (t : List ℕ). number_bytes (code_of d) ++ (t ++ changed d.change))
              (fields-over-bytes img given a b last end h (rw g at r).listed
              ∙ ap (λ (x : Fields). fields.write (merge_fields (fields_meant given a) x)) fields-are.0)
              ∙ sym (delta-bytes (merge_fields (fields_meant given a) d.fields) d.change)

        -- "Update merges into a live delta, field by field and attribute by attribute"
        pub onto-delta : {a m : AttrDelta} {v : ℕ} → v ≡ suc (kind_number (kind_meant k)) → m ≡ attr_over a b
            → Onto img at a (N.Updated (record { code = v; attr_delta = m; new = a.xattrs; old = b.xattrs; change = C.Kept end }))
        onto-delta {a} {m} {v} i q = record {
          stays = λ after w.
              let c : code_meant (Some k) ≡ None = rw y at (ap (λ (y : Option Kind × ℕ). y.0) (same_Ok (rw z at (dead-code w)))) in
              absurd (let n : ◌≡◌ {A = ℕ} 0 1 = cc in omega arith);
          merges = λ after d f w. record {
            new = record { code = v; attr_delta = m; new = a.xattrs; old = b.xattrs; change = C.Kept end };
            is = refl;
            writes = λ given last h. rw (i, q) (merged-bytes after d f w a given last h);
          };
        }
