-- Lists that stay in the image. Document 01: "`HashMap`, `BTreeMap`, `Vec` become sorted lists in the image."
use Rattle.std.specs.Prelude.{◌≡◌, refl, List, ℕ, ◌+◌, ◌-◌, ◌≤◌, length, drop, Result, IfOk, Option}
use Rattle.wire.specs.declared.fault.Fault.{Fault}
use Rattle.wire.specs.Parse.{Parsed, fault, got}
use Rattle.wire.specs.Codec.{Codec}
use Rattle.wire.specs.Orders.{by_bytes}
use Rattle.wire.specs.Maps.{Map, empty}
use Rattle.wire.specs.Lists.{rising, last_count}
use Rattle.wire.specs.Reading.{Reads, meant}
use Rattle.image.specs.declared.name.Under.{Under}
use Rattle.image.specs.FieldLayout.{name}
use Rattle.image.specs.Under.{UnderName, under}
use Rattle.wire.specs.declared.part.Part.{Part}
use Rattle.std.specs.Option.{option_map}
use Rattle.nodes.specs.Fields.{holds_if}

abbrev pub read_or : {A : Type 0} → A → Parsed A → A
read_or z (fault f) = z
read_or z (got a r) = a

-- a list by name, its count first
abbrev pub by_name : (u : Under) → Codec (Map by_bytes (UnderName u))
by_name u = rising by_bytes name (under u) last_count refl

module _ (img : List ℕ) (u : Under) where
  -- the list at a place; where there is none, the empty one
  abbrev pub list_at : Part → Map by_bytes (UnderName u)
  list_at p = read_or (empty by_bytes) ((by_name u).read (drop p.start img))

  abbrev pub list_of : Option Part → Option (Map by_bytes (UnderName u))
  list_of = option_map list_at

  -- there is a list at the place, and it ends at `end`
  pub record Listed (p : Part) (end : ℕ) : Type 0 where
    pub is : (by_name u).read (drop p.start img) ≡ got (list_at p) (drop end img)
    pub ends : p.start + p.length ≡ end
    pub inside : end ≤ length img

  abbrev pub ListedIf : Option Part → ℕ → Type 0
  ListedIf = holds_if Listed

-- the part from one place to another
abbrev pub part_from : ℕ → ℕ → Part
part_from start end = record { start = start; «length» = end - start }

-- a list was read, which stands from `at` to its end
pub record ReadsNames (img : List ℕ) (u : Under) (at : ℕ) (r : Result (Part × ℕ) Fault) : Type 0 where
  pub reads : Reads img (by_name u).read at (meant (list_at img u) r)
  pub listed : IfOk r (λ x. Listed img u x.0 x.1)
  pub place : IfOk r (λ x. x.0 ≡ part_from at x.1)
