-- Document 01: "5 stands for: the new image is over 65,536 bytes or over the lent target."
use Rattle.std.specs.Prelude.{◌≡◌, Bool, true, ◌&&◌, ℕ, ◌≤◌, leb, length}
use Rattle.image.specs.Meaning.{Store}
use Rattle.image.specs.RoundTrip.{write_image}
use Rattle.rules.specs.Calls.{Call}
use Rattle.rules.specs.Arguments.{FitsCall}
use Rattle.rules.specs.Demand.{Made}

abbrev pub InRoom : Store → Type 0
InRoom s = length (write_image s) ≤ 65536

-- the test of 5, for a lent target of so many bytes
abbrev pub has_room : ℕ → Store → Bool
has_room target s = leb (length (write_image s)) 65536 && leb (length (write_image s)) target

-- a call made with a target of so many bytes
abbrev pub lent : ℕ → Call → Made
lent target c = record { call = c; room = has_room target }

-- a call whose arguments fit, and whose new image is at most 65,536 bytes long if it has room
pub record FitsMade (m : Made) : Type 0 where
  pub call : FitsCall m.call
  pub room : (s : Store) → m.room s ≡ true → InRoom s
