-- The stack that the one pass over an image finds.
-- Assumes nothing.
use Rattle.std.specs.Prelude.{Result, Ok, Err, None, Option, Some}
use mathlib.Core.Path.{◌≡◌, sym}
use mathlib.Core.List.{List, [], ◌∷◌}
use Prim.Native.Nat.{ℕ, ◌≤◌}
use lib.ListN.{length}
use Rattle.wire.specs.Parse.{got}
use Rattle.wire.specs.Orders.{by_number}
use Rattle.wire.specs.Maps.{get}
use Rattle.image.specs.Meaning.{Node, Record, Store}
use Rattle.image.specs.NodeLayout.{node}
use Rattle.image.specs.RecordLayout.{layer_record}
use Rattle.image.specs.Places.{Holds}
use Rattle.survey.specs.Gathering.{deltas_of}
use Rattle.image.specs.RoundTrip.{read_image}
use Rattle.survey.specs.Verdict.{Judges, number_of}
use Rattle.survey.specs.declared.refusal.Refusal.{Refusal}
use Rattle.survey.specs.declared.store.Survey.{Survey}
use Rattle.survey.proofs.Surveyed.{AllHold, records_of, survey-holds}
use Rattle.rules.specs.Initial.{Initial}
use Rattle.rules.specs.Answers.{Answer, refused}
use Rattle.rules.specs.Views.{view}
use Rattle.rules.specs.Asks.{Ask, Reply, inode_of, reply, ask}
use Rattle.rules.specs.PlacedStacks.{unplaced, unplaced_node}
use Rattle.rules.specs.ReadCalls.{over_image}
use Rattle.rules.proofs.PlacedStack.{survey-node, survey-records, placed-stack, placed-node}
use Rattle.rules.proofs.Asked.{over-fine, verdict-fine, verdict-refused}
use Rattle.stack.specs.Stacks.{AllRead, NodeRead, Stacked, records_in, node_in}
use Rattle.stack.specs.InStack.{StackOf, Opens}
use Rattle.stack.specs.declared.stack.Stack.{Stack}

all_read : (img ps : List ℕ) (l : List Record) → AllHold img layer_record.read ps l → AllRead img ps
all_read img [] l h = tt
all_read img (p ∷ ps) [] h = absurd h
all_read img (p ∷ ps) (a ∷ l) h = (rw h.0.1 tt, all_read img ps l h.1)

node-read : (img : List ℕ) (p : Option ℕ) (n : Option Node) → Holds img node.read p n → NodeRead img p
node-read img None n h = tt
node-read img (Some p) None h = absurd h
node-read img (Some p) (Some n) h = rw h.1 tt

module _ {img : List ℕ} {i : ℕ} {o : Result Survey Refusal} (j : Judges img i o) where
  module _ {s : Survey} (d : o ≡ Ok s) where
    -- an image that may be used has a stack for each inode
    pub survey-stacked : Stacked img s.stack
    survey-stacked =
        let g = rw d at j in
        let v = verdict-fine img (sym g.verdict) in
        let h = survey-holds g.survey.surveys v.1 in
        record {
          node = node-read img s.stack.base (get by_number i v.0.base) h.node_held;
          records = all_read img (deltas_of s.stack) (records_of i v.0) h.records_held;
          few = g.survey.few;
          wide = g.survey.wide;
        }

    pub opens-stack : (k : Stack) → k.img.now ≡ img → k.places ≡ s.stack → Opens img i (Ok k)
    opens-stack k a b =
        let g = rw d at j in
        let n = survey-node g.survey.surveys in
        let r = survey-records g.survey.surveys in
        record { verdict = g.verdict; stack = record { image_is = a; node_is = rw b n; records_are = rw b r } }

-- ---- the calls over bytes

abbrev pub viewed : Initial → (q : Ask) → Stack → Answer (Reply q)
viewed initial q s = reply q (view initial (inode_of q) (unplaced (records_in s.img.now s.places)) (unplaced_node (node_in s.img.now s.places)))

fine-call : {img : List ℕ} {i : ℕ} {s : Stack} (initial : Initial) (q : Ask) → inode_of q ≡ i → StackOf img i s → {st : Store} → length img ≤ 65536
    → read_image img ≡ got st [] → over_image (ask initial q) img ≡ viewed initial q s
fine-call {img} initial q e k l g =
    let call = over-fine (ask initial q) img l g in
    rw (call, k.image_is, k.records_are, k.node_is, ← e, placed-stack img (inode_of q) g, placed-node img (inode_of q) g)

module _ {img : List ℕ} {i : ℕ} {o : Result Stack Refusal} (h : Opens img i o) where
  -- where the image is refused, so is every call
  pub opened-refused : {A : Type 0} (f : Store → Answer A) {r : Refusal} → o ≡ Err r → over_image f img ≡ refused (number_of r)
  opened-refused f {r} d = let g = rw d at h in verdict-refused f img r (sym g.verdict)

  -- where it isn't, it is that of a store
  pub opened-store : {s : Stack} → o ≡ Ok s → (st : Store) × (read_image img ≡ got st []) × (length img ≤ 65536)
  opened-store d = let g = rw d at h in verdict-fine img (sym g.verdict)

  -- and a call answers by what its stack shows
  pub opened-fine : {s : Stack} (initial : Initial) (q : Ask) → inode_of q ≡ i → o ≡ Ok s → over_image (ask initial q) img ≡ viewed initial q s
  opened-fine initial q e d = let v = opened-store d in let g = rw d at h in fine-call initial q e g.stack v.2 v.1
