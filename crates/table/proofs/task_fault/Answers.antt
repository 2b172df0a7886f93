-- `table::task_fault` meets its contract: the rows that the task names are read where they are, and
-- those in use are counted. Assumes nothing.
use mathlib.Core.Path.{◌∙◌}
use Prim.Native.Nat.{◌<◌}
use native.Mathlib.Omega.{arith}
use Rattle.table.proofs.Rules.{place_below, rows_read}
use Rattle.table.proofs.task_fault.Goals as goal
use Rattle.table.proofs.task_fault.Goals.{After-row_in-i, After-row_in-j}

home_below : (c : After-row_in-i) → c.row_in-i.result < 32
home_below c = omega (arith, c.row_in-i.ensures, place_below c.args.home)

degraded_below : (c : After-row_in-j) → c.row_in-j.result < 32
degraded_below c =
    omega (arith, c.row_in-j.ensures, place_below c.args.degraded)

pub offset_bounds-ss-i : goal.offset_bounds-ss-i
offset_bounds-ss-i c = record { fits = omega (arith, home_below (goal.at.offset_bounds-ss-i c).After-row_in-i) }

pub bounds-ss-i : goal.bounds-ss-i
bounds-ss-i c = home_below (goal.at.bounds-ss-i c).After-row_in-i

pub offset_bounds-ss-j : goal.offset_bounds-ss-j
offset_bounds-ss-j c = record { fits = omega (arith, degraded_below (goal.at.offset_bounds-ss-j c).After-row_in-j) }

pub bounds-ss-j : goal.bounds-ss-j
bounds-ss-j c = degraded_below (goal.at.bounds-ss-j c).After-row_in-j

pub returns : goal.returns
returns c =
    let a = c.args in
    c.rows_fault.ensures
    ∙ rw (c.row_in-i.ensures, c.row_in-j.ensures)
    (rows_read a.ss a.count c.min-n.result a.home a.degraded a.limit
    (omega arith) c.min-n.ensures)
