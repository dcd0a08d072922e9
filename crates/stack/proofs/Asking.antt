-- What each call that reads answers, by what its stack shows.
-- Assumes nothing.
use Rattle.std.specs.Prelude.{Result, Ok, Err}
use mathlib.Core.Path.{◌≡◌, refl, ◌∙◌}
use mathlib.Core.List.{List}
use Prim.Native.Nat.{ℕ}
use Rattle.survey.specs.Verdict.{number_of}
use Rattle.survey.specs.declared.refusal.Refusal.{Refusal}
use Rattle.rules.specs.Initial.{usual}
use Rattle.rules.specs.Answers.{Answer, refused, answer}
use Rattle.rules.specs.Reads.{is_there, type, child, link_text, parent, attribute}
use Rattle.rules.specs.FileAttrs.{attributes}
use Rattle.rules.specs.Views.{parent_at, view_at}
use Rattle.rules.specs.Asks.{Ask, Reply, reply, ask}
use Rattle.rules.specs.ReadCalls.{over_image}
use Rattle.stack.specs.InStack.{shown_in, Opens}
use Rattle.stack.specs.Named.{OpensNamed}
use Rattle.stack.specs.declared.stack.Stack.{Stack}
use Rattle.stack.proofs.Opening.{viewed, opened-refused, opened-fine}
use Rattle.stack.proofs.Naming.{refused-by, named-opens}

-- the image is opened, and the name judged where the call is given one
abbrev pub OpensFor : Ask → List ℕ → Result Stack Refusal → Type 0
OpensFor (Ask.exists i) img o = Opens img i o
OpensFor (Ask.type i) img o = Opens img i o
OpensFor (Ask.attributes i) img o = Opens img i o
OpensFor (Ask.link_text i) img o = Opens img i o
OpensFor (Ask.parent i) img o = Opens img i o
OpensFor (Ask.child i name) img o = OpensNamed img i name o
OpensFor (Ask.attribute i name) img o = OpensNamed img i name o
OpensFor (Ask.listing i lent) img o = Opens img i o
OpensFor (Ask.names i lent) img o = Opens img i o

-- what the stack shows
abbrev pub told : (q : Ask) → Stack → Answer (Reply q)
told (Ask.exists i) s = answer (is_there (shown_in type s))
told (Ask.type i) s = answer (shown_in type s)
told (Ask.attributes i) s = answer (shown_in (attributes usual i) s)
told (Ask.link_text i) s = answer (shown_in link_text s)
told (Ask.parent i) s = answer (parent_at i (shown_in parent s))
told (Ask.child i name) s = answer (shown_in (child name) s)
told (Ask.attribute i name) s = answer (shown_in (attribute name) s)
told (Ask.listing i lent) s = viewed usual (Ask.listing i lent) s
told (Ask.names i lent) s = viewed usual (Ask.names i lent) s

module _ (img : List ℕ) {o : Result Stack Refusal} where
  -- where it is refused, so is the call
  pub asked-refused : (q : Ask) → OpensFor q img o → {r : Refusal} → o ≡ Err r → over_image (ask usual q) img ≡ refused (number_of r)
  unfolding reply
  asked-refused (Ask.exists i) h d = opened-refused h (ask usual (Ask.exists i)) d
  asked-refused (Ask.type i) h d = opened-refused h (ask usual (Ask.type i)) d
  asked-refused (Ask.attributes i) h d = opened-refused h (ask usual (Ask.attributes i)) d
  asked-refused (Ask.link_text i) h d = opened-refused h (ask usual (Ask.link_text i)) d
  asked-refused (Ask.parent i) h d = opened-refused h (ask usual (Ask.parent i)) d
  asked-refused (Ask.child i name) h d = refused-by h (λ s. (view_at usual s i).child name) d
  asked-refused (Ask.attribute i name) h d = refused-by h (λ s. (view_at usual s i).attribute name) d
  asked-refused (Ask.listing i lent) h d = opened-refused h (ask usual (Ask.listing i lent)) d
  asked-refused (Ask.names i lent) h d = opened-refused h (ask usual (Ask.names i lent)) d

  -- where not, it answers what the stack shows
  pub asked-told : (q : Ask) → OpensFor q img o → {s : Stack} → o ≡ Ok s → over_image (ask usual q) img ≡ told q s
  unfolding reply
  asked-told (Ask.exists i) h d = opened-fine h usual (Ask.exists i) refl d
  asked-told (Ask.type i) h d = opened-fine h usual (Ask.type i) refl d
  asked-told (Ask.attributes i) h d = opened-fine h usual (Ask.attributes i) refl d
  asked-told (Ask.link_text i) h d = opened-fine h usual (Ask.link_text i) refl d
  asked-told (Ask.parent i) h d = opened-fine h usual (Ask.parent i) refl d
  asked-told (Ask.child i name) h d = let p = named-opens h d in opened-fine p.0 usual (Ask.child i name) refl d ∙ rw p.1
  asked-told (Ask.attribute i name) h d = let p = named-opens h d in opened-fine p.0 usual (Ask.attribute i name) refl d ∙ rw p.1
  asked-told (Ask.listing i lent) h d = opened-fine h usual (Ask.listing i lent) refl d
  asked-told (Ask.names i lent) h d = opened-fine h usual (Ask.names i lent) refl d
