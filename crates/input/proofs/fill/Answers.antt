-- What a read put behind the bytes at the buffer's start is what the reader gave up, and stands right behind them.
use Rattle.std.proofs.Common.{◌≡◌, ℕ, ◌+◌, ◌-◌, ◌≤◌, List, ◌++◌, rules, length, take, drop, sym, ap, ◌∙◌, subst, le_refl, drop_at, length-take-le}
use Rattle.std.proofs.lemmas.Slice.{take-put_mid_below}
use Rattle.std.proofs.KnownBytes.{Consumes-trans}
use Rattle.std.specs.Io.KnownBytes.{Consumes}
use borrow.Rule.Slice.PartMut.{put_mid, post_of}
use lib.Seq.{take-add, take-append-le}
use Rattle.input.proofs.fill.Goals as goal

taken : (d n k : ℕ) (xs ys : List ℕ) → d ≤ length xs → n ≤ length ys → take d xs ++ take n ys ≡ take (d + n) (put_mid d k xs ys)
taken d n k xs ys within fits =
    let all = put_mid d k xs ys in
    let after = post_of d k xs in
    let front : take d all ≡ take d xs = take-put_mid_below d k xs ys d (le_refl d) within in
    let rest : take n (drop d all) ≡ take n ys =
    ap (take n) (drop_at (take d xs) (ys ++ after) d (length-take-le d xs within)) ∙ take-append-le n ys after fits in
    ap (λ l. l ++ take n ys) (sym front) ∙ ap (λ l. take d all ++ l) (sym rest) ∙ sym (take-add d n all)

pub loop-done-preserved : goal.loop-done-preserved
loop-done-preserved g c =
    let joined = taken c.loop-done.done c.in_ok-read.read (length c.loop-done.buf - c.loop-done.done) c.loop-done.buf c.read.new.buf c.loop-done.invariant.0
    c.in_ok-read.ensures.bound.0 in
    (search rules, search rules, subst (Consumes _ _) joined (Consumes-trans _ _ _ _ _ c.loop-done.invariant.2 c.in_ok-read.ensures.bytes.0))
