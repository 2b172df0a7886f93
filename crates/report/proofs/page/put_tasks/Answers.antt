-- `report::page::put_tasks` meets its contract: before row i the lines of the first i rows are put.
-- Assumes nothing.
use mathlib.Core.List.{List}
use Prim.Native.Nat.{ℕ}
use native.Mathlib.Omega.{arith}
use Rattle.report.specs.Inner.Page.{task_line_in}
use Rattle.report.proofs.Inner.Page.{rows_put, rows_none}
use Rattle.report.proofs.page.put_tasks.Goals as goal
use Rattle.report.proofs.page.put_tasks.Goals.{Start}

-- the lines of the rows
abbrev lines : Start → ℕ → List ℕ
lines s = task_line_in s.args.counts.now s.args.waiting.now

pub loop-i-init : goal.loop-i-init
loop-i-init c =
    (omega arith, rows_none (lines (goal.at.loop-i-init c).Start) c.args.room.now c.args.at)

pub loop-i-preserved : goal.loop-i-preserved
loop-i-preserved c = (
  omega arith,
  rows_put (lines (goal.at.loop-i-preserved c).Start) c.loop-i.i c.loop-i.invariant.1 c.put_task-k.ensures,
)
