-- `framescheduler::steps::release_in` meets its contract: each way through the code is a case of a release. Assumes nothing.
use mathlib.Core.Path.{◌∙◌}
use Prim.Native.Nat.{◌<◌}
use native.Mathlib.Omega.{arith}
use Rattle.queues.proofs.Inner.{waiting_joined}
use Rattle.framescheduler.proofs.Inner.{rules_of, release_absent, release_full, release_spent, release_taken_lem}
use Rattle.framescheduler.proofs.steps.release_in.Goals as goal
use Rattle.framescheduler.proofs.steps.release_in.Goals.{Else-r-task}

low : (c : Else-r-task) → c.args.task < 64
low c =
    omega (arith, c.if-r-task.false, (rules_of c.args.r.now c.requires).tasks_high)

pub returns-then-r-task : goal.returns-then-r-task
returns-then-r-task c = release_absent c.args.r.now c.args.task c.requires.sound c.if-r-task.true

pub returns-then-r-task-ge-QUEUE : goal.returns-then-r-task-ge-QUEUE
returns-then-r-task-ge-QUEUE c =
    release_full c.args.r.now c.args.task c.requires.sound c.if-r-task.false c.if-r-task-ge-QUEUE.true

pub returns-then-r-ge-MOST : goal.returns-then-r-ge-MOST
returns-then-r-ge-MOST c =
    release_spent c.args.r.now c.args.task c.requires.sound c.if-r-task.false c.if-r-task-ge-QUEUE.false c.if-r-ge-MOST.true

pub returns : goal.returns
returns c =
    rw (c.join.ensures ∙ waiting_joined c.args.r.now.state.waiting c.args.task (low (goal.at.returns c).Else-r-task) c.if-r-task-ge-QUEUE.false)
    (release_taken_lem c.args.r.now c.args.task c.requires.sound c.if-r-task.false c.if-r-task-ge-QUEUE.false c.if-r-ge-MOST.false)

pub bounds-r-task : goal.bounds-r-task
bounds-r-task c = low (goal.at.bounds-r-task c).Else-r-task
