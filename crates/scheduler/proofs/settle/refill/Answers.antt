-- `scheduler::settle::refill` meets its contract: the rows passed are refilled, the others as they
-- were. Assumes nothing.
use mathlib.Core.Path.{◌≡◌}
use native.Mathlib.Omega.{arith}
use Rattle.laws.proofs.Anew.{anew_none}
use Rattle.scheduler.proofs.Inner.Steps.{refill_put, refills_is}
use Rattle.scheduler.proofs.settle.refill.Goals as goal

pub loop-i-init : goal.loop-i-init
loop-i-init c = (anew_none _ _, anew_none _ _)

pub loop-i-preserved : goal.loop-i-preserved
loop-i-preserved c =
    let l = c.loop-i in
    let a = c.args in
    let ss = a.sheets.now in (
      refill_put ss a.elapsed.now l.elapsed a.used.now l.used l.i l.invariant.1 l.invariant.0 _ c.count_if.ensures,
      refill_put ss a.elapsed.now l.elapsed a.elapsed.now l.elapsed l.i l.invariant.1 l.invariant.1 _
          c.count_if-in-loop-i.ensures,
    )

pub returns : goal.returns
returns c =
    let l = c.loop-i in
    let a = c.args in
    let e : l.i ≡ a.sheets.now.nservers = omega arith in
    refills_is a.sheets.now a.used.now a.elapsed.now l.used l.elapsed (rw (← e) l.invariant.0) (rw (← e) l.invariant.1)
