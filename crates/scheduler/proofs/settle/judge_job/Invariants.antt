-- `scheduler::settle::judge_job` meets its contract: each time round the job is still to be judged
-- in the mode that was reached, and a rise leaves fewer modes above it. Assumes nothing.
use Prim.Native.Nat.{◌-◌}
use Rattle.run.specs.Tick.{height, counts_as}
use Rattle.scheduler.proofs.Inner.Steps.{StillJudged}
use Rattle.scheduler.proofs.settle.judge_job.Given as goal

abbrev pub invariant-loop-x : goal.invariant-loop-x
invariant-loop-x l = StillJudged l.x l.l l.c l.initial.mode l.mode

abbrev pub decreases-loop-x : goal.decreases-loop-x
decreases-loop-x l = 3 - height (counts_as l.mode)
