-- `scheduler::event::release_in` meets its contract: each way through the code is a case of a release.
-- Assumes nothing.
use mathlib.Core.Path.{◌≡◌, sym, ◌∙◌}
use mathlib.Core.Bool.{◌&&◌}
use Prim.Native.Nat.{◌<◌}
use native.Mathlib.Omega.{arith}
use Rattle.table.specs.declared.Table.{Table}
use Rattle.table.specs.Rows.{task_at, is_low, is_d2}
use Rattle.queues.proofs.Inner.{waiting_joined}
use Rattle.scheduler.specs.Inner.Columns.{TasksOn}
use Rattle.scheduler.specs.Inner.Events.{run_of}
use Rattle.scheduler.proofs.Inner.Columns.{level_on}
use Rattle.scheduler.proofs.Inner.Events.{release_no_task, release_low, release_full, release_spent, release_taken_lem}
use Rattle.scheduler.proofs.event.release_in.Goals as goal
use Rattle.scheduler.proofs.event.release_in.Goals.{After-low_in_d2}

-- the task is there, and whether 7 is given is asked of its level
there : (c : After-low_in_d2) (t : Table) → TasksOn t c.args.sheets.now → c.args.task < t.ntasks
there c t on = rw (← on.count) c.if-sheets-task.false

asked : (c : After-low_in_d2) (t : Table) → TasksOn t c.args.sheets.now →
    (is_d2 c.args.state.now.mode && is_low (task_at t c.args.task).level) ≡ c.low_in_d2.result
asked c t on =
    rw (← level_on t c.args.sheets.now on c.args.task (there c t on), ← c.level.ensures) (sym c.low_in_d2.ensures)

pub returns-then-sheets-task : goal.returns-then-sheets-task
returns-then-sheets-task c =
    λ t on g. release_no_task (run_of t c.args.state.now) c.args.task g (rw (← on.count) c.if-sheets-task.true)

pub returns-then-low_in_d2 : goal.returns-then-low_in_d2
returns-then-low_in_d2 c =
    let b = (goal.at.returns-then-low_in_d2 c).After-low_in_d2 in
    λ t on g.
    release_low (run_of t c.args.state.now) c.args.task g (there b t on) (asked b t on ∙ c.if-low_in_d2.true)

pub returns-then-state-task-ge-QUEUE : goal.returns-then-state-task-ge-QUEUE
returns-then-state-task-ge-QUEUE c =
    let b = (goal.at.returns-then-state-task-ge-QUEUE c).After-low_in_d2 in
    λ t on g.
    release_full (run_of t c.args.state.now) c.args.task g (there b t on) (asked b t on ∙ c.if-low_in_d2.false)
    c.if-state-task-ge-QUEUE.true

pub returns-then-state-ge-MOST : goal.returns-then-state-ge-MOST
returns-then-state-ge-MOST c =
    let b = (goal.at.returns-then-state-ge-MOST c).After-low_in_d2 in
    λ t on g.
    release_spent (run_of t c.args.state.now) c.args.task g (there b t on) (asked b t on ∙ c.if-low_in_d2.false)
    c.if-state-task-ge-QUEUE.false c.if-state-ge-MOST.true

pub returns : goal.returns
returns c =
    let s = c.args.state.now in
    let k = c.args.task in
    let b = (goal.at.returns c).After-low_in_d2 in
    λ t on g.
    rw (c.join.ensures ∙ waiting_joined s.waiting k (omega arith) c.if-state-task-ge-QUEUE.false)
    (release_taken_lem (run_of t s) k g (there b t on) (asked b t on ∙ c.if-low_in_d2.false)
    c.if-state-task-ge-QUEUE.false c.if-state-ge-MOST.false)
