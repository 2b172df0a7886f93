-- `framescheduler::steps::highest_task` meets its contract: the walk keeps the highest such task among those
-- passed. Assumes nothing.
use Rattle.laws.proofs.Highest.{Top}
use Rattle.frametable.specs.Rows.{frame_priority_at}
use Rattle.framescheduler.proofs.Inner.{waits_of}
use Rattle.framescheduler.proofs.steps.highest_task.Given as goal

abbrev pub invariant-loop-k : goal.invariant-loop-k
invariant-loop-k l =
    Top l.k (waits_of l.t l.waiting l.p) (frame_priority_at l.t) l.height l.row
