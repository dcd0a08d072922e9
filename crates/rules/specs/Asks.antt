-- The calls that read, with their refusals.
use Rattle.std.specs.Prelude.{List, [], ◌∷◌, Bool, false, not, ◌&&◌, ℕ, leb, ltb, length, None, Option, Some}
use Rattle.wire.specs.Orders.{by_bytes}
use Rattle.wire.specs.Maps.{Map}
use Rattle.image.specs.Meaning.{Text, Kind, Store}
use Rattle.rules.specs.Initial.{Initial}
use Rattle.rules.specs.Answers.{Answer, answer, first_of, unless}
use Rattle.rules.specs.Reads.{is_there}
use Rattle.rules.specs.FileAttrs.{FileAttr}
use Rattle.rules.specs.Views.{View, view_at}

-- a listing and the attribute names are also given the number of rows lent
pub data Ask : Type 0 where
  exists type attributes link_text parent : ℕ → Ask
  child attribute : ℕ → Text → Ask
  listing names : ℕ → ℕ → Ask

abbrev pub inode_of : Ask → ℕ
inode_of (exists i) = i
inode_of (type i) = i
inode_of (attributes i) = i
inode_of (link_text i) = i
inode_of (parent i) = i
inode_of (child i name) = i
inode_of (attribute i name) = i
inode_of (listing i lent) = i
inode_of (names i lent) = i

-- "Rows are compared in number, order, name bytes and inode, texts by their bytes; neither by place in the image."
abbrev pub Reply : Ask → Type 0
Reply (exists i) = Bool
Reply (type i) = Option Kind
Reply (attributes i) = Option FileAttr
Reply (link_text i) = Option Text
Reply (parent i) = Option ℕ
Reply (child i name) = Option ℕ
Reply (attribute i name) = Option Text
Reply (listing i lent) = Option (List (Text × ℕ))
Reply (names i lent) = Option (List (Text × ℕ))

abbrev pub rows_of : {A : Type 0} → Option (Map by_bytes A) → Option (List (Text × A))
rows_of None = None
rows_of (Some m) = Some m.rows

-- "Attribute names fill rows likewise, inode 0."
abbrev pub name_rows : {A : Type 0} → List (Text × A) → List (Text × ℕ)
name_rows [] = []
name_rows (e ∷ l) = (e.0, 0) ∷ name_rows l

abbrev pub names_of : {A : Type 0} → Option (Map by_bytes A) → Option (List (Text × ℕ))
names_of None = None
names_of (Some m) = Some (name_rows m.rows)

-- "3 if the name given is empty or over 255 bytes"
abbrev pub bad_name : Text → Bool
bad_name name = not (leb 1 (length name) && leb (length name) 255)

-- "5 if there are fewer rows than entries"
abbrev pub few_rows : {A : Type 0} → ℕ → Option (Map by_bytes A) → Bool
few_rows lent None = false
few_rows lent (Some m) = ltb lent (length m.rows)

-- "Reads: 1, 2, then 3. Listings: as reads, last 5." 1 and 2 are about the bytes of the image.
unfoldable pub reply : (q : Ask) → View → Answer (Reply q)
reply (exists i) v = answer (is_there v.type)
reply (type i) v = answer v.type
reply (attributes i) v = answer v.attributes
reply (link_text i) v = answer v.link_text
reply (parent i) v = answer v.parent
reply (child i name) v = unless (first_of ((3, bad_name name) ∷ [])) (v.child name)
reply (attribute i name) v = unless (first_of ((3, bad_name name) ∷ [])) (v.attribute name)
reply (listing i lent) v = unless (first_of ((5, few_rows lent v.listing) ∷ [])) (rows_of v.listing)
reply (names i lent) v = unless (first_of ((5, few_rows lent v.names) ∷ [])) (names_of v.names)

-- what a store answers
abbrev pub ask : Initial → (q : Ask) → Store → Answer (Reply q)
ask initial q s = reply q (view_at initial s (inode_of q))
