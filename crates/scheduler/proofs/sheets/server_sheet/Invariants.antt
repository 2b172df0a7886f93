-- `scheduler::sheets::server_sheet` meets its contract: the rows passed stand in the sheet. Assumes
-- nothing.
use lib.ListN.{get_or}
use Rattle.table.specs.Rows.{no_server}
use Rattle.scheduler.specs.Inner.Columns.{server_cells}
use Rattle.scheduler.proofs.Inner.Columns.{Filled}
use Rattle.scheduler.proofs.sheets.server_sheet.Given as goal

abbrev pub invariant-loop-i : goal.invariant-loop-i
invariant-loop-i l = Filled 32 7 (λ j. server_cells (get_or l.servers j no_server)) l.i l.sheet
