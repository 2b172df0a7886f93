-- `report::count::count_rows` meets its contract: after each server its row is one tick on. Assumes
-- nothing.
use mathlib.Core.Path.{◌≡◌}
use Prim.Native.Nat.{◌≤◌}
use lib.ListN.{length}
use Rattle.report.proofs.Inner.Count.{RowsGoing}
use Rattle.report.proofs.count.count_rows.Given as goal

abbrev pub invariant-loop-i : goal.invariant-loop-i
invariant-loop-i l =
    (l.i ≤ l.nservers) × (l.nservers ≤ 32) × (length l.found ≡ 96) × RowsGoing l.i l.found l.initial.counts l.counts
