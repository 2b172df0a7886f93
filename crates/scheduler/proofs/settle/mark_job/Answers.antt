-- `scheduler::settle::mark_job` meets its contract: each way through the code is a case of step 1.
-- Assumes nothing.
use mathlib.Core.Path.{◌≡◌, sym, ◌∙◌}
use Prim.Native.Nat.{◌<◌}
use native.Mathlib.Omega.{arith}
use lib.ListN.{get_or}
use Rattle.table.specs.declared.Table.{Table}
use Rattle.table.specs.Rows.{task_at}
use Rattle.queues.proofs.Inner.{waiting_left, runs_left}
use Rattle.run.specs.Tick.{judge}
use Rattle.scheduler.specs.Inner.Columns.{TasksOn}
use Rattle.scheduler.proofs.Inner.Steps.{no_job, done, cut, stays}
use Rattle.scheduler.proofs.Inner.Columns.{level_on, limits_on}
use Rattle.scheduler.proofs.settle.mark_job.Goals as goal
use Rattle.scheduler.proofs.settle.mark_job.Goals.{After-judge_job-judged, In-Some}

-- the last-run task is a row in use
there : (c : In-Some) → c.in-Some.k < c.args.sheets.now.ntasks
there c = let q = rw c.in-Some.is at c.requires.1 in q.0

low : (c : In-Some) → c.in-Some.k < 64
low c = omega (arith, there c, c.requires.0.tasks)

row_judged : (c : After-judge_job-judged) (t : Table) → TasksOn t c.args.sheets.now →
    let s = c.args.state.now in
    c.judge_job-judged.result ≡ judge 3 (task_at t c.in-Some.k) (get_or s.runs c.in-Some.k 0) s.mode
row_judged c t on =
    let k = c.in-Some.k in
    let ss = c.args.sheets.now in
    let q = rw c.in-Some.is at c.requires.1 in
    let h : k < t.ntasks = omega (arith, q.0, on.count) in
    c.judge_job-judged.ensures (task_at t k) (sym (c.limits.ensures ∙ limits_on t ss on k h))
    (sym (c.level.ensures ∙ level_on t ss on k h))

pub returns-in_default : goal.returns-in_default
returns-in_default c = λ t on. no_job t c.args.state.now c.args.mark c.in_default.is

pub returns-then-mark : goal.returns-then-mark
returns-then-mark c =
    let s = c.args.state.now in
    let k = c.in-Some.k in
    let l = low (goal.at.returns-then-mark c).In-Some in
    λ t on.
    rw (c.leave.ensures.0 ∙ waiting_left s.waiting k l, c.leave.ensures.1 ∙ runs_left s.runs k l)
    (done t s c.args.mark k c.in-Some.is c.if-mark.true)

pub returns-then-judged : goal.returns-then-judged
returns-then-judged c =
    let s = c.args.state.now in
    let k = c.in-Some.k in
    let at = goal.at.returns-then-judged c in
    let l = low at.In-Some in
    λ t on.
    rw (
      c.leave-then-judged.ensures.0 ∙ waiting_left s.waiting k l,
      c.leave-then-judged.ensures.1 ∙ runs_left s.runs k l,
    )
    (cut t s c.args.mark k c.in-Some.is c.if-mark.false c.judge_job-judged.result
    (row_judged at.After-judge_job-judged t on) c.if-judged.true)

pub returns : goal.returns
returns c =
    λ t on.
    stays t c.args.state.now c.args.mark c.in-Some.k c.in-Some.is c.if-mark.false c.judge_job-judged.result
    (row_judged (goal.at.returns c).After-judge_job-judged t on) c.if-judged.false
