-- All that the reads show of an inode.
use Rattle.std.specs.Prelude.{List, cond, ℕ, eqb, None, Option, Some}
use Rattle.wire.specs.Orders.{by_number}
use Rattle.wire.specs.Maps.{get}
use Rattle.image.specs.Meaning.{Text, Kind, Entries, Attributes, Node, Record, Store, directory, file, symlink, special}
use Rattle.rules.specs.Initial.{Initial}
use Rattle.rules.specs.Stacks.{stack, layers}
use Rattle.rules.specs.Reads.{look, type, child, entries, link_text, parent, attribute, values}
use Rattle.rules.specs.FileAttrs.{FileAttr, attributes}

-- "Listing: none unless the attributes' type is directory."
abbrev pub if_directory : Kind → Entries → Option Entries
if_directory directory es = Some es
if_directory file es = None
if_directory symlink es = None
if_directory (special s) es = None

abbrev pub listed : Option FileAttr → Entries → Option Entries
listed None es = None
listed (Some a) es = if_directory a.type es

-- "Parent: inode 1 always has parent 1."
abbrev pub parent_at : ℕ → Option ℕ → Option ℕ
parent_at i p = cond (eqb i 1) (Some 1) p

-- "Names: none without attributes, else those with a value, rising."
abbrev pub valued : Option FileAttr → Attributes → Option Attributes
valued None vs = None
valued (Some a) vs = Some vs

pub record View : Type 0 where
  pub type : Option Kind
  pub child : Text → Option ℕ
  pub attributes : Option FileAttr
  pub listing : Option Entries
  pub link_text : Option Text
  pub parent : Option ℕ
  pub attribute : Text → Option Text
  pub names : Option Attributes

module _ (initial : Initial) where
  abbrev pub view : ℕ → List Record → Option Node → View
  view i rs b = record {
    type = look type rs b;
    child = λ name. look (child name) rs b;
    attributes = look (attributes initial i) rs b;
    listing = listed (look (attributes initial i) rs b) (look entries rs b);
    link_text = look link_text rs b;
    parent = parent_at i (look parent rs b);
    attribute = λ name. look (attribute name) rs b;
    names = valued (look (attributes initial i) rs b) (look values rs b);
  }

  abbrev pub view_at : Store → ℕ → View
  view_at s i = view i (stack i (layers s)) (get by_number i s.base)
