-- `scheduler::sheets::task_sheet` meets its contract: the rows passed stand in the sheet. Assumes
-- nothing.
use lib.ListN.{get_or}
use Rattle.table.specs.Rows.{no_task}
use Rattle.scheduler.specs.Inner.Columns.{task_cells}
use Rattle.scheduler.proofs.Inner.Columns.{Filled}
use Rattle.scheduler.proofs.sheets.task_sheet.Given as goal

abbrev pub invariant-loop-k : goal.invariant-loop-k
invariant-loop-k l = Filled 64 7 (λ j. task_cells (get_or l.tasks j no_task)) l.k l.sheet
