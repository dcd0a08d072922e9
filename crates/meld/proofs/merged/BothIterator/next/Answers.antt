use mathlib.Core.Path.{refl}
use Rattle.meld.proofs.Merging.{upper-goes, lower-goes, gives-none, ended, leads}
use Rattle.meld.proofs.merged.BothIterator.next.Goals as goal

pub returns-in-Some-None-clause-steps : goal.returns-in-Some-None-clause-steps
returns-in-Some-None-clause-steps c =
    record {
      is = upper-goes c.take.ensures.0 (leads c.first_row-first.ensures c.in-Some-None.is-0) (ended c.first_row-second.ensures c.in-Some-None.is-1)
          c.take.ensures.1 refl;
    }

pub returns-in-None-Some-clause-steps : goal.returns-in-None-Some-clause-steps
returns-in-None-Some-clause-steps c =
    record {
      is = lower-goes c.take-in-None-Some.ensures.0 (ended c.first_row-first.ensures c.in-None-Some.is-0)
          (leads c.first_row-second.ensures c.in-None-Some.is-1) refl c.take-in-None-Some.ensures.1;
    }

pub returns-in-None-None-clause-steps : goal.returns-in-None-None-clause-steps
returns-in-None-None-clause-steps c =
    gives-none (ended c.first_row-first.ensures c.in-None-None.is-0) (ended c.first_row-second.ensures c.in-None-None.is-1) refl
