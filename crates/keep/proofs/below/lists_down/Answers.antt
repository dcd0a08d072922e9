use native.Mathlib.Omega.{arith}
use Rattle.std.proofs.Common.{rules}
use Rattle.keep.proofs.Leading.{leading-start, leading-end, leading-more, leading-none, leading-all}
use Rattle.keep.proofs.below.lists_down.Goals as goal

pub loop-i-init : goal.loop-i-init
loop-i-init c = leading-start c.new-all.ensures

-- "Other kind: none."
pub returns-in_default : goal.returns-in_default
returns-in_default c = leading-end (omega arith) c.loop-i.invariant c.record.ensures (λ k x. rw c.in_default.is (search rules))

-- "Tombstone: none."
pub returns-in_default-2 : goal.returns-in_default-2
returns-in_default-2 c = leading-end (omega arith) c.loop-i.invariant c.record.ensures (λ k x. rw c.in_default.is)

pub loop-i-preserved : goal.loop-i-preserved
loop-i-preserved c =
    leading-more (omega arith) c.loop-i.invariant c.record.ensures c.in-Node-Directory.is c.in-Node-Directory.field-0-is c.directory_lists.result
    c.directory_lists.ensures c.push.ensures

pub returns-in_default-base_entries : goal.returns-in_default-base_entries
returns-in_default-base_entries c = leading-none (omega arith) c.loop-i.invariant c.base_entries.ensures c.in_default-base_entries.is

pub returns : goal.returns
returns c = leading-all (omega arith) c.loop-i.invariant c.base_entries.ensures c.in-Some.entries c.in-Some.is c.source_at-lowest.ensures c.push-2.ensures
