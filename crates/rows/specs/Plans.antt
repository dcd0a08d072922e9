-- What a listing answers and fills. Document 01: "A listing fills a lent row of entries: start of the name in the image, length, inode."
-- "Listings: as reads, last 5 if there are fewer rows than entries." "Rows past the last stay."
use Rattle.std.specs.Prelude.{◌≡◌, Bool, true, false, cond, List, ◌++◌, map, ℕ, ◌≤◌, ltb, length, drop, Result, Ok, Err, IfOk, IfSome, None, Option, Some}
use Rattle.rules.specs.Answers.{Answer, refused, answer}
use Rattle.rules.specs.Changes.{map_if}
use Rattle.rules.specs.ReadCalls.{Row, map_answer, filled, list_directory, list_xattrs}
use Rattle.rules.specs.Initial.{usual}
use Rattle.rules.specs.Queue.{is_directory}
use Rattle.rules.specs.FileAttrs.{FileAttr}
use Rattle.survey.specs.declared.refusal.Refusal.{Refusal}
use Rattle.layers.specs.Answered.{answered, filled_rows}
use Rattle.merge.specs.Merges.{rows_decided}
use Rattle.gather.specs.declared.gather.Listing.{Listing}
use Rattle.gather.specs.declared.gather.Listing.TheVariants as L
use Rattle.rows.specs.declared.listing.Entry.{Entry}
use Rattle.rows.specs.declared.plan.Plan.{Plan}

-- "start of the name in the image, length, inode"
abbrev pub entry_of : Row → Entry
entry_of r = record { start = r.start; «length» = r.length; inode = r.inode }

abbrev pub in_entries : Answer (Option (List Row)) → Answer (Option (List Entry))
in_entries a = map_answer (map_if (map entry_of)) a

-- "Listing: none unless the attributes' type is directory." "Names: none without attributes"
abbrev pub is_listed : Listing → Option FileAttr → Bool
is_listed l None = false
is_listed L.Entries (Some a) = is_directory a.type
is_listed L.Attributes (Some a) = true

-- the call by what it lists
abbrev pub list_call : Listing → List ℕ → ℕ → ℕ → Answer (Option (List Row))
list_call L.Entries img i lent = list_directory usual img i lent
list_call L.Attributes img i lent = list_xattrs usual img i lent

-- "5 if there are fewer rows than entries"
abbrev pub room_for : ℕ → List Row → Answer (Option (List Row))
room_for room l = cond (ltb room (length l)) (refused 5) (answer (Some l))

-- ---- a plan: the rows of a listing, and how many they are

abbrev pub plan_rows : Plan → List Row
plan_rows p = rows_decided p.all

abbrev pub plan_entries : Plan → List Entry
plan_entries p = map entry_of (plan_rows p)

-- there is room for them
abbrev pub Fits : ℕ → Plan → Type 0
Fits room p = p.count ≤ room

-- these are its rows, if there is room for them
pub record PlansRows (l : List Row) (room : ℕ) (r : Result Plan Refusal) : Type 0 where
  pub answers : answered (λ p. Some (plan_rows p)) r ≡ room_for room l
  pub fits : IfOk r (Fits room)

-- it answers this, within the room
pub record Plans (a : Answer (Option (List Row))) (room : ℕ) (r : Result (Option Plan) Refusal) : Type 0 where
  pub answers : answered (map_if plan_rows) r ≡ a
  pub fits : IfOk r (λ o. IfSome o (Fits room))

-- the first are these, and the others stay
pub record Fills (es old : List Entry) (n : ℕ) (new : List Entry) : Type 0 where
  pub many : n ≡ length es
  pub rows : new ≡ es ++ drop (length es) old

abbrev pub count_in : Result (Option ℕ) Refusal → ℕ
count_in (Err r) = 0
count_in (Ok None) = 0
count_in (Ok (Some n)) = n

abbrev pub row_count : Answer (Option (List Row)) → ℕ
row_count (refused n) = 0
row_count (answer None) = 0
row_count (answer (Some l)) = length l

-- the answer, which says how many rows it fills, with the rows as they are after the call: "Rows past the last stay."
pub record Filled (w : Answer (Option (List Row))) (old new : List Entry) (a : Result (Option ℕ) Refusal) : Type 0 where
  pub answers : answered (filled_rows new) a ≡ in_entries w
  pub count : count_in a ≡ row_count w
  pub rows : new ≡ filled (in_entries w) old
