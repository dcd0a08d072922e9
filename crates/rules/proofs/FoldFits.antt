-- What a fold makes of nodes and records that fit fits, but for counts.
use Rattle.std.specs.Prelude.{None, Option, Some}
use mathlib.Core.List.{List, [], ◌∷◌}
use mathlib.Core.Bool.{Bool, true, false, cond}
use Prim.Native.Nat.{ℕ}
use native.Mathlib.Omega.{arith}
use Rattle.wire.specs.Time.{epoch}
use Rattle.wire.specs.Maps.{meet}
use Rattle.wire.specs.Lists.{Every}
use Rattle.image.specs.Meaning.{Special, Kind, Entries, Attributes, Body, Meta, Node, Base, Changes, Fields, Names, Change, Record, Layer, directory, file, symlink, special, pipe, character, block, socket, tombstone, delta, changed_kind, kind_of}
use Rattle.image.specs.Fits.{IfGiven, FitsInode, FitsWord, FitsName, FitsValue, FitsTime, FitsSize, FitsTarget, FitsDevice, MapFits, MetaFits, BodyFits, NodeFits, ChangesFits, FieldsFits, ChangeFits, RecordFits, LayerFits}
use Rattle.rules.specs.Initial.{Initial}
use Rattle.rules.specs.Arguments.{FitsInitial}
use Rattle.rules.specs.Fold.{given, cut, add_all, remove_all, alter_all, on_meta, first_device, on_body, first_body, first_meta, applied, same_kind, fold_record}
use Rattle.rules.specs.Queue.{fold_layer, fold_all}
use Rattle.rules.proofs.EachRow.{Any, empty-fits, merge-fits}

given-fits : {A : Type 0} (P : A → Type 0) (o : Option A) (a : A) → IfGiven P o → P a → P (given o a)
given-fits P None a h p = p
given-fits P (Some x) a h p = h

cut_fits : (o : Option ℕ) → IfGiven FitsWord o → IfGiven FitsWord (cut o)
cut_fits None h = tt
cut_fits (Some mode) h = omega arith

alter-fits : (o : Option Changes) (vs : Attributes) → IfGiven (ChangesFits Any) o → MapFits Any FitsName FitsValue vs
    → MapFits Any FitsName FitsValue (meet alter_all o vs)
alter-fits None vs h f = f
alter-fits (Some c) vs h f = merge-fits (λ name change old. change) (λ name change old r q. r) c vs h f

entries_fit : (added : Entries) (removed : Names) (es : Entries) → MapFits Any FitsName FitsInode added → MapFits Any FitsName (λ _. Unit {0}) removed
    → MapFits Any FitsName FitsInode es → MapFits Any FitsName FitsInode (add_all added (remove_all removed es))
entries_fit added removed es a r f =
    merge-fits (λ name inode old. Some inode) (λ name inode old x q. x) added (remove_all removed es) a
    (merge-fits (λ name u old. None) (λ name u old x q. tt) removed es r f)

meta-fits : (f : Fields) (m : Meta) → FieldsFits Any f → MetaFits Any m → MetaFits Any (on_meta f m)
meta-fits f m h k = record {
  perm = given-fits FitsWord (cut f.mode) m.perm (cut_fits f.mode h.mode) k.perm;
  links = given-fits FitsWord f.links m.links h.links k.links;
  owner = given-fits FitsWord f.owner m.owner h.owner k.owner;
  group = given-fits FitsWord f.group m.group h.group k.group;
  atime = given-fits FitsTime f.atime m.atime h.atime k.atime;
  mtime = given-fits FitsTime f.mtime m.mtime h.mtime k.mtime;
  ctime = given-fits FitsTime f.ctime m.ctime h.ctime k.ctime;
  attributes = alter-fits f.attributes m.attributes h.attributes k.attributes;
}

body-fits : (c : Change) (b : Body) → ChangeFits Any c → BodyFits Any b → BodyFits Any (on_body c b)
body-fits (directory p added removed) (directory q es) h k =
    (given-fits FitsInode p q h.0 k.0, entries_fit added removed es h.1.0 h.1.1 k.1)
body-fits (directory p added removed) (file size) h k = k
body-fits (directory p added removed) (symlink target) h k = k
body-fits (directory p added removed) (special device) h k = k
body-fits (file n) (directory q es) h k = k
body-fits (file n) (file size) h k = given-fits FitsSize n size h k
body-fits (file n) (symlink target) h k = k
body-fits (file n) (special device) h k = k
body-fits (symlink t) (directory q es) h k = k
body-fits (symlink t) (file size) h k = k
body-fits (symlink t) (symlink target) h k = given-fits FitsTarget t target h k
body-fits (symlink t) (special device) h k = k
body-fits (special s device) b h k = k

device-fits : (s : Special) (n : ℕ) → FitsWord n → FitsDevice (first_device s n)
device-fits pipe n h = tt
device-fits character n h = h
device-fits block n h = h
device-fits socket n h = tt

first_body_lem : (c : Change) → ChangeFits Any c → BodyFits Any (first_body c)
first_body_lem (directory p added removed) h = (omega arith, empty-fits)
first_body_lem (file n) h = omega arith
first_body_lem (symlink t) h = (omega arith, omega arith, tt)
first_body_lem (special s device) h = device-fits s device h

epoch-fits : FitsTime epoch
epoch-fits = record { seconds = record { sfits = omega arith }; nanos = omega arith }

module _ (initial : Initial) (ok : FitsInitial initial) where
  first-meta : (k : Kind) → MetaFits Any (first_meta initial k)
  first-meta k = record {
    perm = (ok k).0;
    links = (ok k).1;
    owner = omega arith;
    group = omega arith;
    atime = epoch-fits;
    mtime = epoch-fits;
    ctime = epoch-fits;
    attributes = empty-fits;
  }

  fold-fits : (r : Record) (n : Option Node) → RecordFits Any r → IfGiven (NodeFits Any) n → IfGiven (NodeFits Any) (fold_record initial r n)
  unfolding fold_record
  fold-fits tombstone n h k = tt
  fold-fits (delta d) None h k = record {
    meta = meta-fits d.fields (first_meta initial (changed_kind d.change)) h.fields (first-meta (changed_kind d.change));
    body = body-fits d.change (first_body d.change) h.change (first_body_lem d.change h.change);
  }
  fold-fits (delta d) (Some n) h k = go (same_kind (changed_kind d.change) (kind_of n.body))
    where
      go : (b : Bool) → NodeFits Any (cond b (applied d n) n)
      go true = record { meta = meta-fits d.fields n.meta h.fields k.meta; body = body-fits d.change n.body h.change k.body }
      go false = k

  pub layer_fits : (l : Layer) (base : Base) → LayerFits Any l → MapFits Any FitsInode (NodeFits Any) base → MapFits Any FitsInode (NodeFits Any) (fold_layer initial l base)
  layer_fits l base h k = merge-fits (λ i r n. fold_record initial r n) (λ i r n f g. fold-fits r n f g) l base h k

  pub all_fit : (ls : List Layer) (base : Base) → Every (LayerFits Any) ls → MapFits Any FitsInode (NodeFits Any) base
      → MapFits Any FitsInode (NodeFits Any) (fold_all initial ls base)
  unfolding fold_all
  all_fit [] base h k = k
  all_fit (l ∷ ls) base h k = all_fit ls (fold_layer initial l base) h.1 (layer_fits l base h.0 k)
