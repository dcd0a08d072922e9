-- A step of a walk: the least inode, its stack, and the walk past it.
-- Assumes nothing.
use Rattle.std.specs.Prelude.{None, Option, Some, is_some}
use mathlib.Core.Path.{◌≡◌, refl, sym, ap, ◌∙◌}
use mathlib.Core.Bool.{Bool, false}
use mathlib.Core.List.{List, [], ◌∷◌, ◌++◌, append-nil}
use Prim.Native.Nat.{ℕ, ◌+◌, ◌≤◌, ◌<◌, min}
use native.Mathlib.Omega.{arith}
use lib.ListN.{length, take, drop, get_or, set}
use Rattle.std.specs.List.{All}
use Rattle.std.specs.Iterator.{at_most, MakesProgress}
use Rattle.std.proofs.lemmas.List.{length-set, take_more, take_more_set}
use Rattle.std.proofs.lemmas.List.{get_or-drop, drop-drop, drop-set-lt, at_drop_more, at_drop_all}
use Rattle.std.proofs.lemmas.List.Elements.{All-nil, All-head, All-tail, All-push, All-get_or}
use Rattle.std.specs.declared.cmp.Ordering.{Ordering}
use Rattle.std.specs.declared.cmp.Ordering.TheVariants.{Less, Equal, Greater}
use Rattle.wire.specs.Orders.{by_number, says, Says, cmp_n}
use Rattle.wire.specs.Maps.{meet}
use Rattle.image.specs.Meaning.{Node}
use Rattle.survey.specs.Gathering.{list_if, deltas_of, Bare, Pushed}
use Rattle.passes.specs.declared.inode.Held.{Held}
use Rattle.passes.specs.declared.inode.Held.TheVariants as H
use Rattle.survey.specs.declared.batch.InodeLayerStack.{InodeLayerStack}
use Rattle.rules.specs.Reads.{is_there}
use Rattle.rules.specs.PlacedStacks.{records_on, unplaced, unplaced_node, node_at}
use Rattle.rules.proofs.PlacedStack.{records-snoc}
use Rattle.stack.specs.Stacks.{AllRead}
use Rattle.merge.specs.Pile.{first_key, pick_key, lower, least_key, head_if, pass, pass_all, answer}
use Rattle.merge.proofs.Piles.{pile-step, pile-end, ascend-pass}
use Rattle.walk.specs.Runs.{Piece, Row, run_rows, Sound, piece_at, EndsAt, next_of, Moved}
use Rattle.walk.specs.Ready.{layers_over, sources_in, Ready}
use Rattle.walk.specs.Walks.{Pieces, or_nothing, laying, top_of, sources_of, stacks_left, pieces_at, key_of, Lower, Least, Taken, Steps}
use Rattle.walk.specs.declared.run.Run.{Run}
use Rattle.walk.specs.declared.run.Runs.{Runs}
use Rattle.walk.specs.declared.walk.Walk.{Walk}
use Rattle.walk.specs.declared.walk.Step.{Step}
use Rattle.walk.proofs.Running.{reads-there, has-head, left-as}

-- ---- the lesser of two inodes

module _ {best : Option ℕ} {o : Option Run} where
  pub lower-none : o ≡ None → Lower best o best
  lower-none e = rw e (record { is = refl })

  module _ {r : Run} (n : o ≡ Some r) where
    pub lower-first : best ≡ None → Lower best o (Some r.inode)
    lower-first e = record { is = rw (n, e) }

    pub lower-least : {k : ℕ} → best ≡ Some k → Lower best o (Some (min k r.inode))
    lower-least {k} e = record { is = rw (n, e) (go (cmp_n r.inode k) (says r.inode k)) }
      where
        go : (o : Ordering) → Says r.inode k o → Some (min k r.inode) ≡ pick_key by_number o r.inode k
        go Less s = let z : min k r.inode ≡ r.inode = omega arith in ap Some z
        go Equal s = let z : min k r.inode ≡ r.inode = omega arith in ap Some z
        go Greater s = let z : min k r.inode ≡ k = omega arith in ap Some z

pub ruleset lowers = (lower-none, lower-first, lower-least)

-- ---- the rows of layers

over-snoc : (img : List ℕ) (rs : List (Option Run)) (r : Option Run) (ss : List (List Row))
    → layers_over img (rs ++ (r ∷ [])) ss ≡ run_rows img H.Record r ∷ layers_over img rs ss
unfolding layers_over
over-snoc img [] r ss = refl
over-snoc img (x ∷ rs) r ss = over-snoc img rs r (run_rows img H.Record x ∷ ss)

-- ---- the least inode

first_key_lem : (img : List ℕ) (h : Held) (r : Option Run) → Sound img h r → first_key by_number (run_rows img h r) ≡ key_of r
first_key_lem img h None s = refl
first_key_lem img h (Some r) s = rw (left-as _ s).1

-- the least of some runs and of what is beneath them
unfoldable pub lowest : List (Option Run) → Option ℕ → Option ℕ
lowest [] best = best
lowest (r ∷ rs) best = lowest rs (lower by_number (key_of r) best)

lowest-least : (img : List ℕ) (rs : List (Option Run)) (ss : List (List Row)) → All (Sound img H.Record) rs
    → least_key by_number (layers_over img rs ss) ≡ lowest rs (least_key by_number ss)
unfolding layers_over lowest least_key
lowest-least img [] ss a = refl
lowest-least img (r ∷ rs) ss a =
    lowest-least img rs (run_rows img H.Record r ∷ ss) (All-tail (Sound img H.Record) r rs a)
    ∙ rw (first_key_lem img H.Record r (All-head (Sound img H.Record) r rs a))

module _ (rs : List (Option Run)) (first : Option ℕ) {i : ℕ} {best : Option ℕ} where
  -- with the run at i
  pub lowest-more : i < length rs → lowest (drop i rs) best ≡ lowest rs first → (d : Option Run) {out : Option ℕ} → Lower best (get_or rs i d) out
      → lowest (drop (i + 1) rs) out ≡ lowest rs first
  unfolding lowest
  lowest-more l e d o = rw o.is (sym (at_drop_more (λ (xs : List (Option Run)). lowest xs best) rs i d l) ∙ e)

  pub lowest-last : length rs ≤ i → lowest (drop i rs) best ≡ lowest rs first → best ≡ lowest rs first
  unfolding lowest
  lowest-last l e = sym (at_drop_all (λ (xs : List (Option Run)). lowest xs best) rs i l) ∙ e

pub least-all : {w : Walk} {best out : Option ℕ} → Lower None w.runs.base best → out ≡ lowest (take w.runs.count w.runs.layers) best → Least w out
unfolding least_key
least-all {w} b o =
    let img = w.img.now in
    let h = w.ready.whole in
    record {
      is = lowest-least img (take w.runs.count w.runs.layers) (run_rows img H.Node w.runs.base ∷ []) h.layers
          ∙ rw (first_key_lem img H.Node w.runs.base h.base, ← b.is) (sym o);
    }

-- ---- the stack of an inode

node-pieces : (img : List ℕ) (k : ℕ) (place e : Option ℕ) → EndsAt img H.Node place e
    → ◌≡◌ {A = Pieces} ([], unplaced_node (node_at img place)) (or_nothing (meet (laying k) (piece_at img H.Node place) None))
node-pieces img k None e r = refl
node-pieces img k (Some p) e r = rw (reads-there img H.Node p e r).2

-- a record more, if there is one
record-pieces : (img : List ℕ) (k : ℕ) (ps : List ℕ) (place e : Option ℕ) (b : Option Node) (o : Option Pieces) → EndsAt img H.Record place e
    → ◌≡◌ {A = Pieces} (unplaced (records_on img ps []), b) (or_nothing o)
    → ◌≡◌ {A = Pieces} (unplaced (records_on img (ps ++ list_if place) []), b) (or_nothing (meet (laying k) (piece_at img H.Record place) o))
record-pieces img k ps None n b o r e = rw append-nil e
record-pieces img k ps (Some p) n b o r e = rw (records-snoc, (reads-there img H.Record p n r).2, ← e)

read_more : (img ps : List ℕ) (place e : Option ℕ) → AllRead img ps → EndsAt img H.Record place e → AllRead img (ps ++ list_if place)
read_more img [] None e h r = tt
read_more img [] (Some p) e h r = (rw (reads-there img H.Record p e r).2 tt, tt)
read_more img (q ∷ ps) None e h r = (h.0, read_more img ps None e h.1 r)
read_more img (q ∷ ps) (Some p) e h r = (h.0, read_more img ps (Some p) e h.1 r)

-- the rows of a base and of the lowest i of the layers rs over it
abbrev pub sources_to : List ℕ → Option Run → List (Option Run) → ℕ → List (List Row)
sources_to img base rs i = layers_over img (take i rs) (run_rows img H.Node base ∷ [])

-- of the layers rs over a base, the lowest i are past the inode k, and the others are not moved
pub record Taking (img : List ℕ) (k : ℕ) (old : Option Run) (place : Option ℕ) (rs ns : List (Option Run)) (places : InodeLayerStack)
    (top : Bool) (i : ℕ) : Type 0 where
  pub many : length ns ≡ length rs
  pub ahead : drop i ns ≡ drop i rs
  pub sound : All (Sound img H.Record) (take i ns)
  pub rest : layers_over img (take i ns) (pass by_number k (run_rows img H.Node old) ∷ []) ≡ pass_all by_number k (sources_to img old rs i)
  pub base : places.base ≡ place
  pub records : AllRead img (deltas_of places)
  pub few : places.count ≤ i
  pub wide : length places.deltas ≡ 17
  pub pieces : pieces_at img places ≡ or_nothing (answer by_number laying k (sources_to img old rs i))
  pub topmost : top ≡ is_there (head_if by_number k (top_of (sources_to img old rs i)))

module _ {img : List ℕ} {k : ℕ} {old new : Option Run} {place : Option ℕ} (m : Moved img H.Node old k place new) where
  pub taking-start : {places : InodeLayerStack} → Bare place places → {b : Bool} → b ≡ is_some place → (rs : List (Option Run))
      → Taking img k old places.base rs rs places b 0
  unfolding layers_over pass_all answer records_on
  taking-start {places} b e rs = record {
    many = refl;
    ahead = refl;
    sound = All-nil (Sound img H.Record);
    rest = refl;
    base = refl;
    records = rw b.few tt;
    few = rw b.few (omega arith);
    wide = b.wide;
    pieces = rw (b.few, b.base_kept, m.head) (node-pieces img k place (next_of old) m.ends);
    topmost = e ∙ has-head m;
  }

-- with one layer more, as it was and as it is
over_more : (img : List ℕ) (rs : List (Option Run)) (i : ℕ) (d : Option Run) (ss : List (List Row)) → i < length rs
    → layers_over img (take (i + 1) rs) ss ≡ run_rows img H.Record (get_or rs i d) ∷ layers_over img (take i rs) ss
over_more img rs i d ss l = rw (take_more rs i d l) (over-snoc img (take i rs) (get_or rs i d) ss)

pub over-set : (img : List ℕ) (rs : List (Option Run)) (i : ℕ) (r : Option Run) (ss : List (List Row)) → i < length rs
    → layers_over img (take (i + 1) (set rs i r)) ss ≡ run_rows img H.Record r ∷ layers_over img (take i rs) ss
over-set img rs i r ss l = rw (take_more_set rs i r l) (over-snoc img (take i rs) r ss)

module _ {img : List ℕ} {k : ℕ} {old : Option Run} {place : Option ℕ} {rs ns : List (Option Run)} {places : InodeLayerStack} {top : Bool} {i : ℕ}
    (t : Taking img k old place rs ns places top i) where
  module _ (l : i < length ns) (d : Option Run) where
    taking-at : get_or ns i d ≡ get_or rs i d
    taking-at = let z : i + 0 ≡ i = omega arith in
        rw z at (sym (get_or-drop i ns 0 d) ∙ ap (λ (xs : List (Option Run)). get_or xs 0 d) t.ahead ∙ get_or-drop i rs 0 d)

    pub taking-sound : All (Sound img H.Record) rs → Sound img H.Record (get_or ns i d)
    taking-sound a = let many = t.many in rw taking-at (All-get_or (Sound img H.Record) rs i d (omega arith) a)

    -- one layer more
    pub taking-more : {at : Option ℕ} {next : Option Run} → Moved img H.Record (get_or ns i d) k at next → {more : InodeLayerStack} → Pushed places at more
        → {b : Bool} → b ≡ is_some at → Taking img k old place rs (set ns i next) more b (i + 1)
    unfolding pass_all answer
    taking-more {at} {next} m {more} u e =
        let many = t.many in
        let here = rw taking-at at m in
        let below = answer by_number laying k (sources_to img old rs i) in
        let base = unplaced_node (node_at img places.base) in
        let few = u.few in
        let low = t.few in
        record {
          many = length-set ns i next ∙ t.many;
          ahead = drop-set-lt (i + 1) ns i next (omega arith) ∙ sym (drop-drop 1 i ns) ∙ ap (λ (xs : List (Option Run)). drop 1 xs) t.ahead ∙ drop-drop 1 i rs;
          sound = rw (take_more_set ns i next l) (All-push (Sound img H.Record) (take i ns) next t.sound m.sound);
          rest =
              over-set img ns i next (pass by_number k (run_rows img H.Node old) ∷ []) l
              ∙ rw (over_more img rs i d (run_rows img H.Node old ∷ []) (omega arith), here.rows, t.rest);
          base = u.base ∙ t.base;
          records = rw u.places (read_more img (deltas_of places) at (next_of (get_or rs i d)) t.records here.ends);
          few = omega arith;
          wide = u.wide;
          pieces =
              rw (over_more img rs i d (run_rows img H.Node old ∷ []) (omega arith), u.places, u.base, here.head)
              (record-pieces img k (deltas_of places) at (next_of (get_or rs i d)) base below here.ends t.pieces);
          topmost = rw (over_more img rs i d (run_rows img H.Node old ∷ []) (omega arith)) (e ∙ has-head here);
        }

    -- and no place more
    pub taking-other : {at : Option ℕ} {next : Option Run} → Moved img H.Record (get_or ns i d) k at next → {b : Bool} → b ≡ is_some at → b ≡ false
        → Taking img k old place rs (set ns i next) places b (i + 1)
    taking-other {at} m e f = taking-more m (none at (sym e ∙ f)) e
      where
        none : (o : Option ℕ) → is_some o ≡ false → Pushed places o places
        none None e = record { places = rw append-nil; few = omega arith; wide = t.wide; base = refl }
        none (Some p) e = absurd (let y : ◌≡◌ {A = ℕ} 0 1 = cc in omega arith)

-- ---- the step

-- an inode that stands first somewhere has a stack
answered : (ss : List (List Row)) (k : ℕ) → least_key by_number ss ≡ Some k → answer by_number laying k ss ≡ Some (or_nothing (answer by_number laying k ss))
unfolding least_key answer
answered [] k h = cc
answered ([] ∷ ss) k h = answered ss k h
answered ((u ∷ s) ∷ ss) k h = go (least_key by_number ss) refl h (answered ss)
  where
    Sure : Option Pieces → Type 0
    Sure o = o ≡ Some (or_nothing o)

    here : Some u.0 ≡ Some k → Sure (meet (laying k) (head_if by_number k (u ∷ s)) (answer by_number laying k ss))
    here h = let z : u.0 ≡ k = cc in rw (← z, by_number.self u.0)

    below : (o : Option Piece) → Sure (answer by_number laying k ss) → Sure (meet (laying k) o (answer by_number laying k ss))
    below None e = e
    below (Some c) e = refl

    go : (o : Option ℕ) → least_key by_number ss ≡ o → lower by_number (Some u.0) o ≡ Some k
        → ((j : ℕ) → least_key by_number ss ≡ Some j → Sure (answer by_number laying j ss))
        → Sure (meet (laying k) (head_if by_number k (u ∷ s)) (answer by_number laying k ss))
    go None e h ih = here h
    go (Some b) e h ih = choice (cmp_n u.0 b) h
      where
        choice : (d : Ordering) → pick_key by_number d u.0 b ≡ Some k → Sure (meet (laying k) (head_if by_number k (u ∷ s)) (answer by_number laying k ss))
        choice Less h = here h
        choice Equal h = here h
        choice Greater h = let z : b ≡ k = cc in below (head_if by_number k (u ∷ s)) (ih k (e ∙ ap Some z))

module _ {img : List ℕ} {old new : Runs} (g : Ready img old) {k : ℕ} {r : Step} (t : Taken img old k r new) where
  pub still-ready : Ready img new
  still-ready = record {
    whole = t.whole;
    ascend = rw t.rest (ascend-pass by_number k (sources_in img old) g.ascend);
  }

-- fewer stacks are left
pub step-goes : {w after : Walk} {r : Step} → Steps w (Some r) after
    → MakesProgress {A = Step} (λ (w : Walk). Unit {0}) (λ (w : Walk). at_most (length (stacks_left w))) w (Some r) after
step-goes s = record { on = λ f. (tt, f, rw s.stacks (omega arith)); keeps = tt; rests = λ f. tt }

module _ {w : Walk} {best : Option ℕ} (l : Least w best) where
  pub step-none : best ≡ None → {r : Option Step} → r ≡ None → Steps w r w
  step-none e d =
      let none : least_key by_number (sources_of w) ≡ None = l.is ∙ e in
      rw d (record { image_is = refl; stacks = pile-end by_number laying (sources_of w) none; taken = tt; ended = λ z. none; rests = λ z. refl })

  pub step_taken : {k : ℕ} → best ≡ Some k → {r : Step} {after : Walk} → after.img.now ≡ w.img.now → Taken w.img.now w.runs k r after.runs
      → Steps w (Some r) after
  step_taken {k} e {r} {after} a t =
      let left : sources_of after ≡ pass_all by_number k (sources_of w) = rw a t.rest in
      let s = t.stack in
      record {
        image_is = a;
        stacks =
            pile-step by_number laying (sources_of w) w.ready.ascend k (l.is ∙ e)
            ∙ rw (answered (sources_of w) k (l.is ∙ e), left, s.inode, s.pieces);
        taken = record {
          stack = record { inode = refl; image_is = s.image_is; ends = s.ends; pieces = rw s.inode s.pieces; top = rw s.inode s.top };
          rest = rw s.inode left;
        };
        ended = λ z. absurd (let y : ◌≡◌ {A = ℕ} 0 1 = cc in omega arith);
        rests = λ z. absurd (let y : ◌≡◌ {A = ℕ} 0 1 = cc in omega arith);
      }
