-- Both round-trip laws on the contracts of the code, for every format: numbers with any limit, texts with any bounds, times.
-- Assumes nothing.
use mathlib.Core.Path.{◌≡◌, ap, ◌∙◌}
use mathlib.Core.List.{List, ◌++◌, append_assoc}
use Prim.Native.Nat.{ℕ, ◌+◌, ◌-◌, ◌≤◌}
use native.Mathlib.Omega.{arith}
use lib.ListN.{length, take, drop, length-append, length-drop}
use lib.Seq.{take-append_seam, length-take-le, drop_at}
use Rattle.wire.specs.Codec.{Codec, OneForm}
use Rattle.wire.specs.Reading.{Reads, part}
use Rattle.wire.specs.Put.{Put}
use Rattle.std.specs.Prelude.{Ok}
use Rattle.wire.proofs.Puts.{put_whole, put-exact, put-length}

module _ {A : Type 0} (c : Codec A) (a : A) where
  -- What is written is read back: after a writer that had room, a reader at its place gives the value, and the place after it.
  pub written_read : {old new : List ℕ} {at next : ℕ} → Put old at (c.write a) next new → next ≤ length old → c.Fits a
      → Reads new c.read at (Ok (a, next))
  written_read {old} {new} {at} {next} p h f =
      let e : next ≡ at + length (c.write a) = put-exact p (omega (arith, p.short)) in
      let w : new ≡ take at old ++ (c.write a ++ drop next old) = put_whole p h ∙ append_assoc (take at old) (c.write a) (drop next old) in
      let l : length (take at old) ≡ at = length-take-le at old (omega arith) in
      let here : drop at new ≡ c.write a ++ drop next old = rw w (drop_at (take at old) (c.write a ++ drop next old) at l) in
      let after : drop next new ≡ drop next old =
      rw (put_whole p h) (drop_at (take at old ++ c.write a) (drop next old) next (omega (arith, length-append (take at old) (c.write a)))) in
      record { same = rw (here, after) (c.back a (drop next old) f); within = omega (arith, put-length p) }

  -- What is read is written as the same bytes, so each value has one form.
  pub read-written : OneForm c → {img : List ℕ} {at next : ℕ} → Reads img c.read at (Ok (a, next)) → at ≤ length img → part img at (next - at) ≡ c.write a
  read-written one {img} {at} {next} h k =
      let f : drop at img ≡ c.write a ++ drop next img = (one.forth (drop at img) a (drop next img) h.same).0 in
      let n : next - at ≡ length (c.write a) = omega (arith, h.within, simp (length-append, length-drop) at (ap length f)) in
      rw (n, f) (take-append_seam (c.write a) (drop next img))
