-- Demand 2's round trip: an image and the store that it means are two forms of one thing.
-- Assumes nothing.
use Rattle.std.specs.Prelude.{ℕ, ◌≡◌, List, [], ◌++◌}
use Rattle.std.proofs.Common.{sym}
use Rattle.wire.specs.Parse.{fault, got}
use Rattle.wire.proofs.Decoding.{decode-encode, encode-decode, decode-cut}
use Rattle.wire.specs.declared.fault.Fault.TheVariants.{Ended}
use Rattle.image.specs.Meaning.{Store}
use Rattle.image.specs.Fits.{FitsStore}
use Rattle.image.specs.StoreLayout.{store}
use Rattle.image.specs.RoundTrip.{read_image, write_image}
use Rattle.image.proofs.OneForm.{store-one}

-- Reading an image and writing what was read gives back the very same bytes.
pub read-then-write : (image : List ℕ) (s : Store) → read_image image ≡ got s [] → write_image s ≡ image
read-then-write image s e = sym (encode-decode store store-one image s [] e).0

-- Each store that fits has exactly one image: writing gives one that is read as that store, and any image read as that store is that one.
pub one-image : (s : Store) → FitsStore s
    → (read_image (write_image s) ≡ got s []) × ((image : List ℕ) → read_image image ≡ got s [] → image ≡ write_image s)
unfolding store
one-image s h = (decode-encode store s h, λ image e. (encode-decode store store-one image s [] e).0)

-- Whatever is read fits, so the stores that fit are those that have an image.
pub read_fits : (image : List ℕ) (s : Store) → read_image image ≡ got s [] → FitsStore s
unfolding store
read_fits image s e = (encode-decode store store-one image s [] e).1

-- An image that is cut short has ended, wherever it is cut.
pub cut-image : (front rest : List ℕ) (s : Store) → read_image (front ++ rest) ≡ got s [] → (rest ≡ [] → ⊥) → read_image front ≡ fault Ended
cut-image front rest s e n = let f = encode-decode store store-one (front ++ rest) s [] e in decode-cut store s front rest f.1 f.0 n
