-- `framescheduler::steps::highest_task` meets its contract: the walk keeps the highest such task among those
-- passed. Assumes nothing.
use mathlib.Core.Path.{◌≡◌, sym, ◌∙◌}
use native.Mathlib.Omega.{arith}
use lib.ListN.{length-take}
use Rattle.laws.proofs.Highest.{top_is}
use Rattle.frametable.specs.Rows.{frame_priority_at}
use Rattle.framescheduler.proofs.Inner.{waits_of, top-walk}
use Rattle.framescheduler.proofs.steps.highest_task.Goals as goal
use Rattle.framescheduler.proofs.steps.highest_task.Goals.{then-is_higher, else-is_higher}

pub loop-k-preserved : goal.loop-k-preserved
loop-k-preserved c =
    let l = c.loop-k in
    let a = c.args in
    let at = top-walk a.t.now a.waiting.now a.p l.k l.height l.row c.loop-k-test.true c.requires l.invariant in
    elim c.if-is_higher.branch [
      | then-is_higher w ↦ rw (w.height-is, w.row-is) (at.0 (sym c.is_higher.ensures ∙ w.if-is_higher.true))
      | else-is_higher w ↦ rw (w.height-is, w.row-is) (at.1 (sym c.is_higher.ensures ∙ w.if-is_higher.false))
    ]

pub returns : goal.returns
returns c =
    let l = c.loop-k in
    let a = c.args in
    let t = a.t.now in
    let e : l.k ≡ t.ntasks = omega (arith, length-take t.ntasks t.tasks) in
    c.found_by.ensures
    ∙ rw e at (top_is (waits_of t a.waiting.now a.p) (frame_priority_at t) l.k l.height l.row l.invariant)
