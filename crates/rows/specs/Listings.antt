-- What a listing shows. Document 01: "A listing fills a lent row of entries: start of the name in the image, length, inode." "Attribute names
-- fill rows likewise, by the highest layer that sets the name, inode 0."
use Rattle.std.specs.Prelude.{List, map, Option}
use Rattle.image.specs.Meaning as M
use Rattle.rules.specs.Starts.{Placed}
use Rattle.rules.specs.PlacedReads.{look_placed, placed_entries, placed_values}
use Rattle.rules.specs.ReadCalls.{Row, row_of}
use Rattle.stack.specs.Stacks.{records_in, node_in}
use Rattle.stack.specs.declared.stack.Stack.{Stack}
use Rattle.gather.specs.declared.gather.Listing.{Listing}
use Rattle.gather.specs.declared.gather.Listing.TheVariants as L

-- the rows of a placed stack
abbrev pub rows_listed : Listing → List (Placed M.Record) → Option (Placed M.Node) → List Row
rows_listed L.Entries rs b = map (row_of (λ inode. inode)) (look_placed placed_entries rs b).rows
rows_listed L.Attributes rs b = map (row_of (λ value. 0)) (look_placed placed_values rs b).rows

abbrev pub rows_in : Listing → Stack → List Row
rows_in l s = rows_listed l (records_in s.img.now s.places) (node_in s.img.now s.places)
