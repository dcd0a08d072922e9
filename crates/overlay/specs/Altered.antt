-- What the new image of a change is: that of the store with live records changed.
use Rattle.std.specs.Prelude.{◌≡◌, List, ℕ, Option}
use Rattle.image.specs.Meaning.{Record, Store}
use Rattle.image.specs.RoundTrip.{write_image}
use Rattle.rules.specs.Queue.{on_live}
use Rattle.change.specs.Sections.{Stands}
use Rattle.survey.specs.declared.store.Sections.{Sections}
use Rattle.overlay.specs.NewRecords.{one_image}
use Rattle.overlay.specs.declared.write.NewLive.{NewLive}

-- of one inode, whatever stands there
pub record Alters (img given newName : List ℕ) (p : Sections) (i : ℕ) (f : Option Record → Option Record) (r : NewLive) : Type 0 where
  pub writes : (s : Store) → Stands img p s → one_image img given newName p r ≡ write_image (on_live i f s)
