use Rattle.stack.proofs.Walks.{Walked}
use Rattle.stack.proofs.question.decided.Given as goal

abbrev pub invariant-loop-i : goal.invariant-loop-i
invariant-loop-i g l = Walked (g.Q.Question.asked l.question) l.stack l.i
