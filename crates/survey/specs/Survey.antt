-- What the one pass over an image answers: whether it is by the layout, where its sections stand, and where one inode's records are.
use Rattle.std.specs.Prelude.{◌≡◌, refl, List, ◌++◌, ℕ, ◌≤◌, length, Option}
use Rattle.std.specs.Prelude.{Result, Ok, Err, None, MatchOption}
use Rattle.std.specs.Option.{ok_or}
use Rattle.wire.specs.declared.fault.Fault.{Fault}
use Rattle.wire.specs.Codec.{Codec}
use Rattle.wire.specs.Combinators.{◌then◌, only}
use Rattle.wire.specs.Number.{number_to}
use Rattle.wire.specs.Orders.{by_number}
use Rattle.wire.specs.Lists.{after}
use Rattle.image.specs.FieldLayout.{inode, word}
use Rattle.image.specs.NodeLayout.{node, base}
use Rattle.image.specs.RecordLayout.{layer_record, records}
use Rattle.image.specs.StoreLayout.{batches, store}
use Rattle.image.specs.Places.{Ends, place_in}
use Rattle.survey.specs.Gathering.{list_if, deltas_of, queue_places}
use Rattle.survey.specs.declared.store.Survey.{Survey}
use Rattle.survey.specs.declared.store.Stop.{Stop}

-- what follows live: next id, judged by the last id of the queue, staged bytes, staged operations, request
abbrev pub tail_after : Option ℕ → Codec (ℕ × (ℕ × (ℕ × ℕ)))
tail_after last = only (after by_number last) inode then word then word then number_to 5 refl

-- the sections end where the next begin, and the store where the image is read to
pub record Surveys (img : List ℕ) (sought : ℕ) (r : Survey) : Type 0 where
  pub ends : Ends img store.read 0 (Ok r.end)
  pub base : Ends img base.read 0 (Ok r.sections.batches)
  pub batches : Ends img batches.read r.sections.batches (Ok r.sections.live)
  pub live : Ends img records.read r.sections.live (Ok r.sections.tail)
  pub node : r.stack.base ≡ place_in by_number inode node img sought 0
  pub deltas : deltas_of r.stack ≡ queue_places img sought r.sections.batches ++ list_if (place_in by_number inode layer_record img sought r.sections.live)

-- the survey of the one pass: its stack has room for 16 batches and live
pub record Surveyed (img : List ℕ) (sought : ℕ) (r : Survey) : Type 0 where
  pub surveys : Surveys img sought r
  pub few : r.stack.count ≤ 17
  pub wide : length r.stack.deltas ≡ 17

-- the stop at a fault, after sections that end at these places
abbrev pub stop_at : Fault → Option ℕ → Option ℕ → Option ℕ → Stop
stop_at f batches live tail = record { fault = f; batches = batches; live = live; tail = tail }

-- the store stops; each section before that ends where the next begins, one stops with the same fault, and none after that one has a place
pub record Stops (img : List ℕ) (s : Stop) : Type 0 where
  pub ends : Ends img store.read 0 (Err s.fault)
  pub base : Ends img base.read 0 (ok_or s.batches s.fault)
  pub batches : MatchOption s.batches (s.live ≡ None) (λ p. Ends img batches.read p (ok_or s.live s.fault))
  pub live : MatchOption s.live (s.tail ≡ None) (λ p. Ends img records.read p (ok_or s.tail s.fault))

-- the survey, or where the store stops
abbrev pub SurveyOf : List ℕ → ℕ → Result Survey Stop → Type 0
SurveyOf img sought (Ok r) = Surveyed img sought r
SurveyOf img sought (Err s) = Stops img s
