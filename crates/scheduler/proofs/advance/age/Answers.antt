-- `scheduler::advance::age` meets its contract: the elapsed counts passed have aged. Assumes nothing.
use mathlib.Core.Path.{◌≡◌, sym, ap}
use Prim.Native.Nat.{◌+◌}
use native.Mathlib.Omega.{arith}
use lib.ListN.{get_or}
use Rattle.laws.proofs.Anew.{anew_none, anew_row, anew_put}
use Rattle.scheduler.proofs.Inner.Steps.{aged, passing_most, ages_is}
use Rattle.scheduler.proofs.advance.age.Goals as goal

pub loop-i-init : goal.loop-i-init
loop-i-init c = anew_none _ _

pub overflow_add-elapsed : goal.overflow_add-elapsed
overflow_add-elapsed c =
    let l = c.loop-i in
    let ss = c.args.sheets.now in
    omega (
      arith,
      passing_most (get_or ss.servers (192 + l.i) 0) c.args.ticks c.count_if.result c.count_if.ensures,
      anew_row (aged ss c.args.ticks) c.args.elapsed.now l.elapsed l.i 0 l.invariant,
      c.requires.1 l.i c.loop-i-test.true,
    )

pub loop-i-preserved : goal.loop-i-preserved
loop-i-preserved c =
    let l = c.loop-i in
    anew_put (aged c.args.sheets.now c.args.ticks) c.args.elapsed.now l.elapsed l.i 0 l.invariant _
    (sym (ap (λ x. get_or l.elapsed l.i 0 + x) c.count_if.ensures))

pub returns : goal.returns
returns c =
    let ss = c.args.sheets.now in
    let e : c.loop-i.i ≡ ss.nservers = omega arith in
    ages_is ss c.args.ticks c.args.elapsed.now c.loop-i.elapsed (rw (← e) c.loop-i.invariant)
