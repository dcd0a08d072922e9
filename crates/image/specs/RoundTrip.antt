-- An image and the store that it means are two forms of one thing: what reads one as the other, and what writes the other as the one.
use Rattle.std.specs.Prelude.{List, ℕ}
use Rattle.wire.specs.Parse.{Parsed}
use Rattle.wire.specs.Codec.{Bytes, decode}
use Rattle.image.specs.Meaning.{Store}
use Rattle.image.specs.Fits.{FitsStore}
use Rattle.image.specs.StoreLayout.{store}

-- what an image is read as: a store with nothing after it, or the fault at which reading stops
abbrev pub read_image : List ℕ → Parsed Store
read_image = decode store

-- the image of a store
abbrev pub write_image : Store → List ℕ
write_image = store.write

-- A store that fits is written in bytes.
pub image-plain : (s : Store) → FitsStore s → Bytes (write_image s)
unfolding store
image-plain s h = store.plain s h
