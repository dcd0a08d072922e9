-- How writers of constructs are put together, and what a copy of a part of the image writes.
-- Assumes nothing.
use mathlib.Core.Path.{◌≡◌, refl}
use mathlib.Core.List.{List, []}
use Rattle.std.specs.Prelude.{Ok, Option}
use Rattle.std.specs.Option.{option_map}
use Rattle.std.proofs.lemmas.Iterator.Adapters.{option_map_id}
use Prim.Native.Nat.{ℕ, ◌-◌, ◌≤◌, ◌<◌}
use native.Mathlib.Omega.{arith}
use mir.Syntax.{w64}
use mir.Val.{Fits}
use lib.ListN.{length, drop}
use lib.Seq.{take_at}
use Rattle.wire.specs.Codec.{Codec, OneForm}
use Rattle.wire.specs.Combinators.{opt_write}
use Rattle.wire.specs.Number.{edge}
use Rattle.wire.specs.Put.{Put}
use Rattle.wire.specs.Reading.{part, Reads}
use Rattle.image.specs.declared.name.Under.{Under}
use Rattle.nodes.specs.Listed.{by_name, list_at, Listed}
use Rattle.nodes.specs.Options.{text_at}
use Rattle.wire.specs.declared.part.Part.{Part}
use Rattle.nodes.proofs.Reading.{reads-length}
use Rattle.nodes.proofs.OneForm.{by_name-one}

-- nothing is written
pub put-nothing : {l : List ℕ} {at : ℕ} → length l < edge → Fits w64 at → Put l at [] at l
put-nothing h k = record { to = omega (arith, k.fits); is = refl; short = h }

-- a value that says itself
pub put-given : {A : Type 0} {l m : List ℕ} {at r : ℕ} (c : Codec A) (o : Option A) → Put l at (opt_write c (option_map (λ x. x) o)) r m
    → Put l at (opt_write c o) r m
put-given c o h = rw (option_map_id o) at h

-- the bytes that were read are those that are written of what they mean
pub part-written : {A : Type 0} {img : List ℕ} (c : Codec A) → OneForm c → {n q : ℕ} {a : A} → n ≤ length img → Reads img c.read n (Ok (a, q))
    → part img n (q - n) ≡ c.write a
part-written {img = img} c one {n} {q} {a} h r =
    rw (one.forth _ _ _ r.same).0 (take_at (c.write a) (drop q img) (q - n) (omega (arith, reads-length c one h r)))

-- so a list that stays in the image is copied
pub list_written : {img : List ℕ} (u : Under) {p : Part} {end : ℕ} → Listed img u p end → text_at img p ≡ (by_name u).write (list_at img u p)
list_written {img} u {p} {end} h =
    let e : p.length ≡ end - p.start = omega (arith, h.ends) in
    rw e (part-written (by_name u) (by_name-one u) (omega (arith, h.ends, h.inside)) (record { same = h.is; within = h.inside }))
