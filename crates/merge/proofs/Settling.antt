-- The rows that sources decide, one after the other.
-- Assumes nothing.
use Rattle.std.specs.Prelude.{None, Option, Some}
use mathlib.Core.Path.{◌≡◌, ap, ◌∙◌}
use mathlib.Core.List.{List, ◌++◌, map}
use Prim.Native.Nat.{ℕ, ◌<◌}
use native.Mathlib.Omega.{arith}
use lib.ListN.{length, take, drop, length-drop}
use lib.Seq.{length-take-le, take-append_seam}
use Rattle.wire.specs.Orders.{by_bytes}
use Rattle.nodes.specs.Options.{text_at}
use Rattle.merge.specs.Pile.{total, least}
use Rattle.merge.specs.Sources.{sources_of, Rise, row_at}
use Rattle.merge.specs.Merges.{Least, PassedAll, given_by, plain_row, GivesFrom}
use Rattle.merge.specs.declared.source.Source.{Source}
use Rattle.merge.specs.declared.read.Given.{Given as GivenParts}
use Rattle.merge.specs.declared.read.Head.{Head}
use Rattle.merge.specs.declared.merge.Row.{Row as GivenRow}
use Rattle.merge.proofs.Piles.{ascend-pass}
use Rattle.merge.proofs.Unite.{decisions-end, decisions-step, decisions-fewer}

-- how many rows are left
abbrev pub left_of : List ℕ → List Source → ℕ
left_of img l = total (sources_of img l)

-- names that are not given were passed
pub record Settling (img : List ℕ) (l rest : List Source) : Type 0 where
  pub same : given_by img l ≡ given_by img rest
  pub rise : Rise img rest

module _ {img : List ℕ} {l rest : List Source} (g : Settling img l rest) {best : Option Head} (f : Least img rest best) where
  pub settled-none : best ≡ None → GivesFrom img l None rest
  settled-none e =
      let n : least by_bytes (sources_of img rest) ≡ None = rw e at f.is in
      let d = g.same ∙ decisions-end by_bytes (sources_of img rest) n in
      record { gives = d; rows = ap (map plain_row) d; rise = g.rise }

  module _ {h : Head} (e : best ≡ Some h) {next : List Source} (p : PassedAll img rest h.name next) where
    found : least by_bytes (sources_of img rest) ≡ Some (row_at img h)
    found = rw e at f.is

    next-rise : Rise img next
    next-rise = rw p.are (ascend-pass by_bytes (text_at img h.name) (sources_of img rest) g.rise)

    pub settling-less : left_of img next < left_of img rest
    settling-less = rw p.are (decisions-fewer by_bytes (sources_of img rest) found)

    pub settling-more : h.given ≡ None → Settling img l next
    settling-more d = record { same = g.same ∙ decisions-step by_bytes (sources_of img rest) found g.rise ∙ rw (d, p.are); rise = next-rise }

    pub settled-given : {x : GivenParts} → h.given ≡ Some x → GivesFrom img l (Some (record { name = h.name; given = x })) next
    settled-given d =
        let i = rw e at f.inside in
        let z : length (text_at img h.name) ≡ h.name.length =
        length-take-le h.name.length (drop h.name.start img) (omega (arith, length-drop h.name.start img, i)) in
        let s = g.same ∙ decisions-step by_bytes (sources_of img rest) found g.rise in
        record { gives = s ∙ rw (d, p.are); rows = ap (map plain_row) s ∙ rw (d, p.are, z); rise = next-rise }

-- the sources are the first of some rows
pub settled-in : {img : List ℕ} {l rest : List Source} {o : Option GivenRow} (n : ℕ) (others : List Source) → length rest ≡ n → GivesFrom img l o rest
    → GivesFrom img l o (take n (rest ++ others))
settled-in {rest = rest} n others e g = rw (← e, take-append_seam rest others) g
