-- The calls over bytes on one small image, computed.
use Rattle.std.specs.Prelude.{None, Some}
use mathlib.Core.Path.{refl}
use mathlib.Core.List.{List, [], ◌∷◌}
use mathlib.Core.Bool.{true, false}
use Prim.Native.Nat.{ℕ}
use Rattle.wire.specs.Number.{number_read, groups-read, groups, number_bytes}
use Rattle.wire.specs.Codec.{decode}
use Rattle.wire.specs.Combinators.{opt-read}
use Rattle.wire.specs.Text.{text-read}
use Rattle.wire.specs.Time.{time}
use Rattle.wire.specs.Lists.{rising-read}
use Rattle.wire.specs.Rows.{lookup, insert, remove, set}
use Rattle.wire.specs.Maps.{empty, get, put, over, merge, under?, rising?, as_map}
use Rattle.image.specs.KindLayout.{kind, code}
use Rattle.image.specs.NodeLayout.{meta, node}
use Rattle.image.specs.RecordLayout.{fields, layer_record}
use Rattle.image.specs.StoreLayout.{batches, store}
use Rattle.image.specs.Places.{place_under}
use Rattle.survey.specs.Gathering.{batch_places}
use Rattle.image.specs.Meaning.{directory}
use Rattle.rules.specs.Initial.{usual}
use Rattle.rules.specs.Answers.{refused, answer}
use Rattle.rules.specs.Stacks.{stack_on}
use Rattle.rules.specs.Reads.{look}
use Rattle.rules.specs.Asks.{reply}
use Rattle.rules.specs.Starts.{start_rows, starts}
use Rattle.rules.specs.PlacedReads.{look_placed}
use Rattle.rules.specs.PlacedStacks.{node_place, record_places, records_on}
use Rattle.rules.specs.ReadCalls.{over_image, Row, entry_rows, attribute_rows, filled, text_of, exists, file_type, lookup_child, attr, list_directory, read_link, has_link, parent_dir_inode, get_xattr, has_xattr, list_xattrs}
use Rattle.rules.proofs.Claims.{Claim, claim, HoldAll, a, b, perm_of}

-- the base has directory 1 with a → 7, c → 5 and attribute x; live sets w and x of it, and adds a → 9 and b → 8
abbrev image : List ℕ
image =
    1 ∷ 1 ∷ 0 ∷ 0xED ∷ 3 ∷ 2 ∷ 0 ∷ 0 ∷ 0 ∷ 0 ∷ 0 ∷ 0 ∷ 0 ∷ 0
    ∷ 1 ∷ 1 ∷ 120 ∷ 1 ∷ 49
    ∷ 1 ∷ 2 ∷ 1 ∷ 97 ∷ 7 ∷ 1 ∷ 99 ∷ 5
    ∷ 0
    ∷ 1 ∷ 1 ∷ 1 ∷ 0x80 ∷ 2
    ∷ 2 ∷ 1 ∷ 119 ∷ 1 ∷ 1 ∷ 50 ∷ 1 ∷ 120 ∷ 1 ∷ 1 ∷ 51
    ∷ 0 ∷ 2 ∷ 1 ∷ 97 ∷ 9 ∷ 1 ∷ 98 ∷ 8 ∷ 0
    ∷ 1 ∷ 0 ∷ 0 ∷ 0 ∷ []

abbrev row : ℕ → ℕ → Row
row start inode = record { start = start; «length» = 1; inode = inode }

-- a and b stand in live, c in the base; w and x where live sets them
abbrev listings : List Claim
listings =
    claim (list_directory usual image 1 3) (answer (Some (row 47 9 ∷ row 50 8 ∷ row 25 5 ∷ [])))
    ∷ claim (list_xattrs usual image 1 2) (answer (Some (row 35 0 ∷ row 40 0 ∷ [])))
    ∷ claim (list_directory usual image 2 3) (answer None)
    ∷ claim (filled (list_xattrs usual image 1 3) (row 7 7 ∷ row 8 8 ∷ row 9 9 ∷ [])) (row 35 0 ∷ row 40 0 ∷ row 9 9 ∷ [])
    ∷ []

-- the other reads
abbrev reads : List Claim
reads =
    claim (exists usual image 1) (answer true)
    ∷ claim (file_type usual image 1) (answer (Some directory))
    ∷ claim (lookup_child usual image 1 b) (answer (Some 8))
    ∷ claim (perm_of (attr usual image 1)) (Some 0o755)
    ∷ claim (text_of (read_link usual image 1)) []
    ∷ claim (has_link usual image 1) (answer false)
    ∷ claim (parent_dir_inode usual image 1) (answer (Some 1))
    ∷ claim (text_of (get_xattr usual image 1 (120 ∷ []))) (51 ∷ [])
    ∷ claim (has_xattr usual image 1 a) (answer false)
    ∷ []

-- 2 comes before 3, and 5 where there are fewer rows than entries; rows stay where a call is refused, and where it answers none
abbrev refusals : List Claim
refusals =
    claim (lookup_child usual (1 ∷ 1 ∷ []) 1 []) (refused 2)
    ∷ claim (lookup_child usual image 1 []) (refused 3)
    ∷ claim (has_xattr usual image 1 []) (refused 3)
    ∷ claim (text_of (get_xattr usual image 1 [])) []
    ∷ claim (list_directory usual image 1 2) (refused 5)
    ∷ claim (list_xattrs usual image 1 1) (refused 5)
    ∷ claim (filled (list_xattrs usual image 1 1) (row 7 7 ∷ [])) (row 7 7 ∷ [])
    ∷ claim (filled (list_directory usual image 2 1) (row 7 7 ∷ [])) (row 7 7 ∷ [])
    ∷ []

pub reads-hold : HoldAll (listings ∷ reads ∷ refusals ∷ [])
unfolding over_image decode store batches node kind meta layer_record code fields time rising-read text-read number_read groups-read number_bytes groups opt-read as_map rising? under? empty get put over merge set insert remove lookup reply look stack_on place_under batch_places node_place record_places records_on look_placed starts start_rows entry_rows attribute_rows
reads-hold =
    ((refl, (refl, (refl, (refl, tt)))), ((refl, (refl, (refl, (refl, (refl, (refl, (refl, (refl, (refl, tt))))))))), ((refl, (refl, (refl, (refl, (refl, (refl, (refl, (refl, tt)))))))), tt)))
