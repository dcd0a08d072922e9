-- What each reply says of the answer that a call's definition gives. Document 01: "A refusal gives its number, length 0 and, for a text, the
-- empty part; target and rows stay." "'None' is an answer." A reply's `refusal` is 0 where there is none.
use Rattle.std.specs.Prelude.{◌≡◌, Bool, true, false, List, ℕ, ◌+◌, ◌≤◌, ⊤, ℤ, pos, length, None, Option, Some, Result, Ok, Err}
use Rattle.wire.specs.Reading.{part}
use Rattle.survey.specs.Verdict.{number_of}
use Rattle.survey.specs.declared.refusal.Refusal.{Refusal}
use Rattle.wire.specs.declared.part.Part.{Part}
use Rattle.wire.specs.declared.time.Time.{Time}
use Rattle.image.specs.Meaning.{Text, Kind, kind_number}
use Rattle.rules.specs.Answers.{Answer, refused, answer}
use Rattle.rules.specs.FileAttrs.{FileAttr}
use Rattle.rules.specs.Reads.{is_there}
use Rattle.rules.specs.ReadCalls.{Row, text_of, filled}
use Rattle.rules.specs.ChangeCalls.{written, length_of}
use Rattle.rows.specs.declared.listing.Entry.{Entry}
use Rattle.rows.specs.Plans.{in_entries}
use Rattle.ffi.specs.declared.reply.YesNoReply.{YesNoReply}
use Rattle.ffi.specs.declared.reply.TypeReply.{TypeReply}
use Rattle.ffi.specs.declared.reply.InodeReply.{InodeReply}
use Rattle.ffi.specs.declared.reply.Timestamp.{Timestamp}
use Rattle.ffi.specs.declared.reply.Attr.{Attr}
use Rattle.ffi.specs.declared.reply.AttrReply.{AttrReply}
use Rattle.ffi.specs.declared.reply.TextReply.{TextReply}
use Rattle.ffi.specs.declared.reply.ChangeReply.{ChangeReply}
use Rattle.ffi.specs.declared.listings.RowsReply.{RowsReply}

-- "A refusal gives its number"
abbrev pub refusal_of : {A : Type 0} → Answer A → ℕ
refusal_of (refused n) = n
refusal_of (answer a) = 0

-- the number of a refusal, 0 for none, and what there is
abbrev pub parts_of : {A : Type 0} → Result (Option A) Refusal → ℕ × Option A
parts_of (Ok o) = (0, o)
parts_of (Err r) = (number_of r, None)

-- "a yes/no call beside it gives the refusal number"
abbrev pub yes_no_reply : Answer Bool → YesNoReply
yes_no_reply (refused n) = record { refusal = n; yes = false }
yes_no_reply (answer b) = record { refusal = 0; yes = b }

-- "kind 0 to 6 in the order above"
abbrev pub type_reply : Answer (Option Kind) → TypeReply
type_reply (refused n) = record { refusal = n; found = false; kind = 0 }
type_reply (answer None) = record { refusal = 0; found = false; kind = 0 }
type_reply (answer (Some k)) = record { refusal = 0; found = true; kind = kind_number k }

-- "its inode", or "none"
abbrev pub inode_reply : Answer (Option ℕ) → InodeReply
inode_reply (refused n) = record { refusal = n; found = false; inode = 0 }
inode_reply (answer None) = record { refusal = 0; found = false; inode = 0 }
inode_reply (answer (Some i)) = record { refusal = 0; found = true; inode = i }

-- ---- attributes

-- "A time is seconds (signed 64 bits), then nanoseconds"
abbrev pub time_out : Time → Timestamp
time_out t = record { seconds = t.seconds; nanos = t.nanos }

-- what the attributes' definition shows: type, permission, links, owner, group, device number, size and times
abbrev pub attr_out : FileAttr → Attr
attr_out a = record {
  ino = a.inode;
  kind = kind_number a.type;
  perm = a.perm;
  nlink = a.links;
  uid = a.owner;
  gid = a.group;
  rdev = a.device;
  size = a.size;
  atime = time_out a.atime;
  mtime = time_out a.mtime;
  ctime = time_out a.ctime;
}

abbrev epoch : Timestamp
epoch = record { seconds = pos 0; nanos = 0 }

-- a refusal, or none: every field is 0
abbrev pub no_attr : ℕ → AttrReply
no_attr n = record {
  refusal = n;
  found = false;
  attr = record { ino = 0; kind = 0; perm = 0; nlink = 0; uid = 0; gid = 0; rdev = 0; size = 0; atime = epoch; mtime = epoch; ctime = epoch };
}

-- "a tombstone clears": no attributes is an answer
abbrev pub attr_reply : Answer (Option FileAttr) → AttrReply
attr_reply (refused n) = no_attr n
attr_reply (answer None) = no_attr 0
attr_reply (answer (Some a)) = record { refusal = 0; found = true; attr = attr_out a }

-- ---- texts

-- "for a text, the empty part"
abbrev pub no_text : ℕ → TextReply
no_text n = record { refusal = n; found = false; start = 0; «length» = 0 }

-- "'None' is an answer."
abbrev pub is_found : {A : Type 0} → Answer (Option A) → Bool
is_found (refused n) = false
is_found (answer o) = is_there o

-- "A link's text, or an attribute's value, comes back as that very part of the image (empty if none or refused)": its bytes are the text's, and
-- it is inside the image. Where two parts of the image are equal, this does not say which of them it is.
pub record TextReplies (img : List ℕ) (def : Answer (Option Text)) (r : TextReply) : Type 0 where
  pub refusal : r.refusal ≡ refusal_of def
  pub found : r.found ≡ is_found def
  pub text : part img r.start r.length ≡ text_of def
  pub size : r.length ≡ length (text_of def)
  pub inside : r.start + r.length ≤ length img

-- where there is no text, the empty part is that at 0
abbrev pub BlankText : Result (Option Part) Refusal → TextReply → Type 0
BlankText (Err n) r = r ≡ no_text (number_of n)
BlankText (Ok None) r = r ≡ no_text 0
BlankText (Ok (Some p)) r = ⊤

-- ---- rows

-- what an answer says
abbrev pub count_reply : Result (Option ℕ) Refusal → RowsReply
count_reply (Err r) = record { refusal = number_of r; found = false; count = 0 }
count_reply (Ok None) = record { refusal = 0; found = false; count = 0 }
count_reply (Ok (Some n)) = record { refusal = 0; found = true; count = n }

-- "A listing fills a lent row of entries": how many
abbrev pub rows_reply : Answer (Option (List Row)) → RowsReply
rows_reply (refused n) = record { refusal = n; found = false; count = 0 }
rows_reply (answer None) = record { refusal = 0; found = false; count = 0 }
rows_reply (answer (Some l)) = record { refusal = 0; found = true; count = length l }

-- reply and rows are those of the call's definition: "Rows past the last stay."
pub record RowsReplies (def : Answer (Option (List Row))) (old new : List Entry) (r : RowsReply) : Type 0 where
  pub replies : r ≡ rows_reply def
  pub rows : new ≡ filled (in_entries def) old

-- ---- changes

-- the time that a call is given
abbrev pub time_given : ℤ → ℕ → Time
time_given seconds nanos = record { seconds = seconds; nanos = nanos }

-- what an answer says, its refusal as a number
abbrev pub reply_of : Result ℕ ℕ → ChangeReply
reply_of (Err n) = record { refusal = n; «length» = 0 }
reply_of (Ok n) = record { refusal = 0; «length» = n }

-- "A refusal gives its number, length 0"
abbrev pub change_reply : Answer (List ℕ) → ChangeReply
change_reply def = record { refusal = refusal_of def; «length» = length_of def }

-- reply and target are those of the call's definition
pub record ChangeReplies (def : Answer (List ℕ)) (old : List ℕ) (r : ChangeReply) (new : List ℕ) : Type 0 where
  pub replies : r ≡ change_reply def
  pub leaves : new ≡ written def old
