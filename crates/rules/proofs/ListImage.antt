-- After any list of calls, refused ones included, the store has an image.
use Rattle.std.specs.Prelude.{None, Option, Some}
use Rattle.std.proofs.lemmas.Bool.{and_parts}
use mathlib.Core.Path.{◌≡◌, refl}
use mathlib.Core.List.{List, [], ◌∷◌}
use mathlib.Core.Bool.{Bool, true, false, cond}
use Prim.Native.Nat.{ℕ}
use lib.Dec.{leb}
use lib.ListN.{length}
use borrow.Author.Tests.{leb-true}
use Rattle.wire.specs.Parse.{got}
use Rattle.wire.specs.Lists.{Every}
use Rattle.image.specs.Meaning.{Store}
use Rattle.image.specs.Fits.{FitsStore}
use Rattle.image.specs.RoundTrip.{read_image, write_image}
use Rattle.image.proofs.RoundTrip.{one-image}
use Rattle.rules.specs.Initial.{Initial}
use Rattle.rules.specs.Answers.{refused, answer, unless}
use Rattle.rules.specs.Calls.{Call}
use Rattle.rules.specs.Arguments.{FitsCall, FitsInitial}
use Rattle.rules.specs.Refusals.{refusal}
use Rattle.rules.specs.Outcomes.{result, change, if_room}
use Rattle.rules.specs.Demand.{Made, store_after, next, after}
use Rattle.rules.specs.Room.{lent, FitsMade}
use Rattle.rules.proofs.ResultImage.{result_fits}

-- document 01's test of 5 is one
pub lent_fits : (target : ℕ) (c : Call) → FitsCall c → FitsMade (lent target c)
lent_fits target c h = record { call = h; room = λ s e. leb-true (length (write_image s)) 65536 (and_parts (leb (length (write_image s)) 65536) (leb (length (write_image s)) target) e).0 }

module _ (initial : Initial) (ok : FitsInitial initial) where
  next_fits : (m : Made) (s : Store) → FitsMade m → FitsStore s → FitsStore (next initial m s)
  unfolding change
  next_fits m s f h = go (refusal m.call s) refl
    where
      new : Store
      new = result initial m.call s

      room : refusal m.call s ≡ None → (b : Bool) → m.room new ≡ b → FitsStore (store_after (cond b (answer new) (refused 5)) s)
      room e true r = result_fits initial ok m.call s h f.call e (f.room new r)
      room e false r = h

      go : (r : Option ℕ) → refusal m.call s ≡ r → FitsStore (store_after (if_room m.room (unless r new)) s)
      go None e = room e (m.room new) refl
      go (Some n) e = h

  pub after-fits : (calls : List Made) (s : Store) → Every FitsMade calls → FitsStore s → FitsStore (after initial calls s)
  unfolding after
  after-fits [] s f h = h
  after-fits (m ∷ ms) s f h = after-fits ms (next initial m s) f.1 (next_fits m s f.0 h)

  pub after-image : (calls : List Made) (s : Store) → Every FitsMade calls → FitsStore s
      → read_image (write_image (after initial calls s)) ≡ got (after initial calls s) []
  after-image calls s f h = (one-image (after initial calls s) (after-fits calls s f h)).0
