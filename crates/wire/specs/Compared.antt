-- Document 02, T-03: one comparison of a stored name "answers less, equal or greater by bytes, proved for every part of the image".
use Rattle.std.specs.Prelude.{◌≡◌, List, ℕ, ◌≤◌, ◌<◌, length, take, get_or}
use Rattle.wire.specs.Reading.{part}
use Rattle.std.specs.declared.cmp.Ordering.{Ordering}
use Rattle.std.specs.declared.cmp.Ordering.TheVariants.{Less, Equal, Greater}

-- a text comes before another: up to some place their bytes are the same, and there it has ended, or has the smaller byte
pub record Before (x y : List ℕ) : Type 0 where
  pub at : ℕ
  pub in_x : at ≤ length x
  pub in_y : at < length y
  pub same : take at x ≡ take at y
  pub smaller : at < length x → get_or x at 0 < get_or y at 0

-- what less, equal and greater say of two texts
abbrev pub TextSays : List ℕ → List ℕ → Ordering → Type 0
TextSays x y Less = Before x y
TextSays x y Equal = x ≡ y
TextSays x y Greater = Before y x

-- A comparison of parts of images with names is a total order by bytes. A part is any start and any length: past the image's end there is nothing of it.
pub record TotalByBytes (compare : List ℕ → ℕ → ℕ → List ℕ → Ordering) : Type 0 where
  -- of the three it answers the one that holds, and no other holds
  pub says : (img : List ℕ) (start size : ℕ) (name : List ℕ) → TextSays (part img start size) name (compare img start size name)
  pub only : (img : List ℕ) (start size : ℕ) (name : List ℕ) (o : Ordering) → TextSays (part img start size) name o → compare img start size name ≡ o
  -- with a part of an image, the same or another, between
  pub trans :
      (img : List ℕ) (start size : ℕ) (between : List ℕ) (from many : ℕ) (name : List ℕ)
      → compare img start size (part between from many) ≡ Less → compare between from many name ≡ Less
      → compare img start size name ≡ Less
