-- The rows that stay. Document 01: "it drops added names that lead to the same inode below and removed names that lead to none."
use Rattle.std.specs.Prelude.{◌≡◌, Bool, not, cond, List, [], ◌∷◌, ℕ, length, drop, Option}
use Rattle.std.specs.declared.cmp.Ordering.TheVariants.{Less}
use Rattle.wire.specs.Parse.{got}
use Rattle.wire.specs.Orders.{by_bytes}
use Rattle.wire.specs.Rows.{lookup, Rising}
use Rattle.wire.specs.Maps.{Map, keep}
use Rattle.wire.specs.Put.{Put}
use Rattle.image.specs.Meaning.{Text}
use Rattle.image.specs.FieldLayout.{name}
use Rattle.image.specs.Under.{UnderName, under}
use Rattle.image.specs.declared.name.Under.{Under}
use Rattle.image.specs.declared.name.Under.TheVariants as U
use Rattle.wire.specs.declared.put.Written.{Written}
use Rattle.rules.specs.Reads.{is_there}
use Rattle.rules.specs.Changes.{map_if}
use Rattle.rules.specs.Normalise.{leads_to}
use Rattle.merge.specs.Sources.{Given}
use Rattle.merge.specs.Merges.{given_in, gives_from}
use Rattle.merge.specs.declared.merge.Row.{Row}
use Rattle.merge.specs.declared.sources.Sources.{Sources}
use Rattle.keep.specs.declared.keep.Names.{Names}
use Rattle.change.specs.Cuts.{rows_bytes}
use Rattle.keep.specs.Below.{inode_given}
use Rattle.nodes.specs.Listed.{by_name}
use Rattle.lookup.specs.Search.{list_in}
use Rattle.lookup.specs.declared.list.NameList.{NameList}

-- whether a row stays, by what its name leads to below
abbrev pub keeps : (u : Under) → Option ℕ → UnderName u → Bool
keeps U.Inode below inode = not (leads_to below inode)
keeps U.Nothing below v = is_there below
keeps U.Value below v = is_there below
keeps U.Change below v = is_there below

abbrev pub kept_map : (u : Under) → (Text → Option ℕ) → Map by_bytes (UnderName u) → Map by_bytes (UnderName u)
kept_map u below m = keep by_bytes (λ k v. keeps u (below k) v) m

-- the rows that pass a test
abbrev pub keep_rows : {K A : Type 0} → (K → A → Bool) → List (K × A) → List (K × A)
keep_rows p [] = []
keep_rows p (e ∷ l) = cond (p e.0 e.1) (e ∷ keep_rows p l) (keep_rows p l)

abbrev pub kept_rows : (u : Under) → (Text → Option ℕ) → List (Text × UnderName u) → List (Text × UnderName u)
kept_rows u below l = keep_rows (λ k v. keeps u (below k) v) l

-- ---- names in step

-- what one of the names that sources give leads to
abbrev pub leads_in : Sources → Text → Option ℕ
leads_in all k = map_if inode_given (lookup by_bytes k (given_in all))

-- the same of the first name, which was read, and of those that the sources past it give
abbrev pub leads_from : Option Row → Sources → Text → Option ℕ
leads_from first rest k = map_if inode_given (lookup by_bytes k (gives_from first rest))

-- the names that are left
abbrev pub names_of : Names → List (Text × (ℕ × Given))
names_of n = gives_from n.first n.rest

abbrev pub leads_on : Names → Text → Option ℕ
leads_on n k = map_if inode_given (lookup by_bytes k (names_of n))

-- they are of the image, and rise
pub record InStep (img : List ℕ) (n : Names) : Type 0 where
  pub image : n.rest.img.now ≡ img
  pub rises : Rising by_bytes (names_of n)

-- what a name leads to; the names that are less are passed
pub record Sought (img : List ℕ) (n : Names) (k : Text) (x : Option ℕ) (r : Names) : Type 0 where
  pub leads : x ≡ leads_on n k
  pub in_step : InStep img r
  pub same : (j : Text) → (by_bytes.cmp j k ≡ Less → ⊥) → leads_on r j ≡ leads_on n j

pub record Keeps (img : List ℕ) (u : Under) (below : Option ℕ) (p : ℕ) (r : Bool) : Type 0 where
  pub is : (v : UnderName u) (s : List ℕ) → (under u).read (drop p img) ≡ got v s → r ≡ keeps u below v

-- what it answers is whether a row stays
abbrev pub KeepsBy : List ℕ → Under → (Option ℕ → ℕ → Bool → Type 0) → Type 0
KeepsBy img u Post = (below : Option ℕ) (p : ℕ) (r : Bool) → Post below p r → Keeps img u below p r

-- the list of the rows that stay
abbrev pub kept_bytes : NameList → (Text → Option ℕ) → List ℕ
kept_bytes l below = (by_name l.what).write (kept_map l.what below (list_in l))

-- the rows of a list that stay
abbrev pub rows_kept : (l : NameList) → (Text → Option ℕ) → List (Text × UnderName l.what)
rows_kept l below = kept_rows l.what below (list_in l).rows

pub record PutsKept (l : NameList) (below : Text → Option ℕ) (old : List ℕ) (at : ℕ) (r : Written) (new : List ℕ) : Type 0 where
  pub put : Put old at (rows_bytes name (under l.what) (rows_kept l below)) r.end new
  pub count : r.count ≡ length (rows_kept l below)
