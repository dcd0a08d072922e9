-- The public calls that read, each as one definition over bytes: what the contracts of the code promise. Document 01: "Always first: 1, image
-- over 65,536 bytes; 2, image not by the layout." "Reads: 1, 2, then 3 if the name given is empty or over 255 bytes." "Listings: as reads,
-- last 5 if there are fewer rows than entries."
use Rattle.std.specs.Prelude.{List, [], ◌++◌, map, Bool, cond, ℕ, ltb, length, drop, None, Option, Some}
use Rattle.wire.specs.Parse.{Parsed, fault, got}
use Rattle.wire.specs.Reading.{part}
use Rattle.image.specs.Meaning.{Text, Kind, Store}
use Rattle.image.specs.RoundTrip.{read_image}
use Rattle.rules.specs.Initial.{Initial}
use Rattle.rules.specs.Answers.{Answer, refused, answer}
use Rattle.rules.specs.Reads.{is_there}
use Rattle.rules.specs.FileAttrs.{FileAttr}
use Rattle.rules.specs.Asks.{Ask, Reply, ask}
use Rattle.rules.specs.Changes.{map_if}
use Rattle.rules.specs.PlacedReads.{look_placed, placed_entries, placed_values}
use Rattle.rules.specs.PlacedStacks.{placed_records, placed_node}

-- ---- of the store that an image holds

-- "2, image not by the layout"
abbrev pub of_store : {A : Type 0} → (Store → Answer A) → Parsed Store → Answer A
of_store f (fault y) = refused 2
of_store f (got s r) = f s

-- "Always first: 1, image over 65,536 bytes"
unfoldable pub over_image : {A : Type 0} → (Store → Answer A) → List ℕ → Answer A
over_image f img = cond (ltb 65536 (length img)) (refused 1) (of_store f (read_image img))

-- the same refusal, or another form of the answer
abbrev pub map_answer : {A B : Type 0} → (A → B) → Answer A → Answer B
map_answer f (refused n) = refused n
map_answer f (answer a) = answer (f a)

-- ---- rows

-- "start of the name in the image, length, inode"
pub record Row : Type 0 where
  pub start : ℕ
  pub «length» : ℕ
  pub inode : ℕ

-- a name with its start, and the inode of what stands under it
abbrev pub row_of : {A : Type 0} → (A → ℕ) → Text × (ℕ × A) → Row
row_of f e = record { start = e.1.0; «length» = length e.0; inode = f e.1.1 }

-- "The start is in the highest layer that adds the name, else in the base."
unfoldable pub entry_rows : List ℕ → ℕ → List Row
entry_rows img i = map (row_of (λ inode. inode)) (look_placed placed_entries (placed_records img i) (placed_node img i)).rows

-- "Attribute names fill rows likewise, by the highest layer that sets the name, inode 0."
unfoldable pub attribute_rows : List ℕ → ℕ → List Row
attribute_rows img i = map (row_of (λ value. 0)) (look_placed placed_values (placed_records img i) (placed_node img i)).rows

-- "Rows are compared in number, order, name bytes and inode": the name is the part of the image that the row says
abbrev pub named : List ℕ → Row → Text × ℕ
named img r = (part img r.start r.length, r.inode)

-- "Rows past the last stay." "A refusal gives its number; target and rows stay."
abbrev pub filled : {A : Type 0} → Answer (Option (List A)) → List A → List A
filled (refused n) old = old
filled (answer None) old = old
filled (answer (Some new)) old = new ++ drop (length new) old

-- "empty if none or refused"
abbrev pub text_of : Answer (Option Text) → Text
text_of (refused n) = []
text_of (answer None) = []
text_of (answer (Some t)) = t

-- ---- the calls

module _ (initial : Initial) where
  -- "Exists, type: the topmost record decides"
  abbrev pub exists : List ℕ → ℕ → Answer Bool
  exists img i = over_image (ask initial (Ask.exists i)) img

  abbrev pub file_type : List ℕ → ℕ → Answer (Option Kind)
  file_type img i = over_image (ask initial (Ask.type i)) img

  -- "Child: from the top."
  abbrev pub lookup_child : List ℕ → ℕ → Text → Answer (Option ℕ)
  lookup_child img i name = over_image (ask initial (Ask.child i name)) img

  -- "Attributes: from the bottom."
  abbrev pub attr : List ℕ → ℕ → Answer (Option FileAttr)
  attr img i = over_image (ask initial (Ask.attributes i)) img

  -- "Listing: none unless the attributes' type is directory." It is given the number of rows lent; rows stand in place of names.
  abbrev pub list_directory : List ℕ → ℕ → ℕ → Answer (Option (List Row))
  list_directory img i lent = over_image (λ s. map_answer (map_if (λ l. entry_rows img i)) (ask initial (Ask.listing i lent) s)) img

  -- "Link text: from the top"; the part of the image that comes back is `text_of` of this
  abbrev pub read_link : List ℕ → ℕ → Answer (Option Text)
  read_link img i = over_image (ask initial (Ask.link_text i)) img

  -- "a yes/no call beside it tells these apart and gives the refusal number"
  abbrev pub has_link : List ℕ → ℕ → Answer Bool
  has_link img i = map_answer is_there (read_link img i)

  -- "Parent: inode 1 always has parent 1."
  abbrev pub parent_dir_inode : List ℕ → ℕ → Answer (Option ℕ)
  parent_dir_inode img i = over_image (ask initial (Ask.parent i)) img

  -- "Extended attribute: from the top"; the part of the image that comes back is `text_of` of this
  abbrev pub get_xattr : List ℕ → ℕ → Text → Answer (Option Text)
  get_xattr img i name = over_image (ask initial (Ask.attribute i name)) img

  abbrev pub has_xattr : List ℕ → ℕ → Text → Answer Bool
  has_xattr img i name = map_answer is_there (get_xattr img i name)

  -- "Names: none without attributes, else those with a value, rising."
  abbrev pub list_xattrs : List ℕ → ℕ → ℕ → Answer (Option (List Row))
  list_xattrs img i lent = over_image (λ s. map_answer (map_if (λ l. attribute_rows img i)) (ask initial (Ask.names i lent) s)) img

  -- ---- the calls as demand 3 asks them, rows by the names that they say

  abbrev pub asked : (q : Ask) → List ℕ → Answer (Reply q)
  asked (Ask.exists i) img = exists img i
  asked (Ask.type i) img = file_type img i
  asked (Ask.attributes i) img = attr img i
  asked (Ask.link_text i) img = read_link img i
  asked (Ask.parent i) img = parent_dir_inode img i
  asked (Ask.child i name) img = lookup_child img i name
  asked (Ask.attribute i name) img = get_xattr img i name
  asked (Ask.listing i lent) img = map_answer (map_if (map (named img))) (list_directory img i lent)
  asked (Ask.names i lent) img = map_answer (map_if (map (named img))) (list_xattrs img i lent)
