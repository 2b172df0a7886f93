-- `report::page::put_servers` meets its contract: before row i the lines of the first i rows are put.
-- Assumes nothing.
use Prim.Native.Nat.{◌≤◌}
use Rattle.morning.specs.Page.{row_lines}
use Rattle.report.specs.Inner.Page.{LinesPut, server_line_in}
use Rattle.report.proofs.page.put_servers.Given as goal

abbrev pub invariant-loop-i : goal.invariant-loop-i
invariant-loop-i l =
    (l.i ≤ l.n) × LinesPut (row_lines (server_line_in l.counts) l.i) l.initial.room l.at l.room l.k
