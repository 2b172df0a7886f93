-- `verdicts::put_page` meets its contract: before row i the lines of the first i rows are put.
-- Assumes nothing.
use Rattle.std.proofs.Common.{◌≡◌}
use native.Mathlib.Omega.{arith}
use Rattle.verdict.specs.Fits.{verdicts_of}
use Rattle.verdicts.proofs.Page.{rows_next, rows_none, all_there, in_use, same_row}
use Rattle.verdicts.proofs.put_page.Goals as goal

pub slice_bounds-all-end : goal.slice_bounds-all-end
slice_bounds-all-end c = all_there c.args.t _ c.verdicts_of-all.ensures c.requires

pub slice_bounds-v-items-end : goal.slice_bounds-v-items-end
slice_bounds-v-items-end c = in_use c.args.t _ c.verdicts_of-all.ensures c.requires

pub loop-row-init : goal.loop-row-init
loop-row-init c = rows_none (verdicts_of c.args.t) c.args.room.now 0

pub loop-row-preserved : goal.loop-row-preserved
loop-row-preserved c =
    let l = c.loop-row in
    rows_next (verdicts_of c.args.t) l.row _
    (same_row c.args.t _ c.verdicts_of-all.ensures c.requires l.row _ c.loop-row-test.true) l.invariant
    c.put_row-k.ensures

pub returns : goal.returns
returns c =
    let t = c.args.t in
    let l = c.loop-row in
    let n : l.row ≡ t.nservers =
    omega (arith, in_use t _ c.verdicts_of-all.ensures c.requires, c.loop-row-test.false, l.auto.row-end) in
    rw n at l.invariant
