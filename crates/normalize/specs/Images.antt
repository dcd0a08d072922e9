-- The image with a layer normalised: the layer's records are new, all else is copied.
use Rattle.std.specs.Prelude.{List, [], ◌∷◌, ◌++◌, ℕ, length}
use Rattle.wire.specs.Put.{Put}
use Rattle.image.specs.Meaning.{Base, Layer}
use Rattle.image.specs.RecordLayout.{records}
use Rattle.rules.specs.Normalise.{normal_layer}
use Rattle.change.specs.Sections.{between, Spans}
use Rattle.walk.specs.Opens.{Over}
use Rattle.walk.specs.declared.walk.Walk.{Walk}
use Rattle.walk.specs.declared.open.Layers.{Layers}

-- the layer l, over these layers and this base, stands where it is said to
pub record LayerAt (w : Walk) (layers : Layers) (b : Base) (ls : List Layer) (l : Layer) : Type 0 where
  pub over : Over b (ls ++ (l ∷ [])) w
  pub stands : Spans w.img.now layers.top (records.write l) layers.end
  pub fits : records.Fits l

abbrev pub normal_bytes : Walk → Layers → Base → List Layer → Layer → List ℕ
normal_bytes w layers b ls l =
    let img = w.img.now in
    between img 0 layers.top ++ (records.write (normal_layer ls b l) ++ between img layers.end (length img))

pub record PutsImage (w : Walk) (layers : Layers) (old : List ℕ) (r : ℕ) (new : List ℕ) : Type 0 where
  pub puts : (b : Base) (ls : List Layer) (l : Layer) → LayerAt w layers b ls l → Put old 0 (normal_bytes w layers b ls l) r new
