-- `scheduler::settle::judge_job` meets its contract: each time round the job is still to be judged
-- in the mode that was reached, and a rise leaves fewer modes above it. Assumes nothing.
use mathlib.Core.Path.{◌≡◌, refl, sym, ap, ◌∙◌}
use mathlib.Core.Bool.{true}
use native.Mathlib.Omega.{arith}
use Rattle.units.specs.declared.Ticks.{Ticks}
use Rattle.table.specs.Rows.{in_mode}
use Rattle.run.specs.Tick.{raises}
use Rattle.scheduler.proofs.Inner.Steps.{judged_on, judged_cut, judged_stays}
use Rattle.scheduler.proofs.settle.judge_job.Goals as goal
use Rattle.scheduler.proofs.settle.judge_job.Goals.{After-raised-mode, In-loop-x}

pub loop-x-init : goal.loop-x-init
loop-x-init c = (2, omega arith, λ k e f. refl)

-- the job is at its limit in the mode that was reached
at_limit : (c : In-loop-x) →
    let a = c.args in
    a.c ≡ (in_mode a.x c.loop-x.mode).0
at_limit c = c.loop-x-test.true ∙ ap (λ (t : Ticks). t.0) c.in_mode.ensures

pub returns-then-not-raises : goal.returns-then-not-raises
returns-then-not-raises c =
    judged_cut _ _ _ _ c.loop-x.mode c.loop-x.invariant (at_limit (goal.at.returns-then-not-raises c).In-loop-x)
    (sym c.raises.ensures ∙ c.if-not-raises.true)

-- and its level lies above that mode
rises : (c : After-raised-mode) →
    raises c.loop-x.mode c.args.l ≡ true
rises c = sym c.raises.ensures ∙ c.if-not-raises.false

pub loop-x-preserved : goal.loop-x-preserved
loop-x-preserved c =
    rw c.raised-mode.ensures
    (judged_on _ _ _ _ c.loop-x.mode c.loop-x.invariant (at_limit (goal.at.loop-x-preserved c).In-loop-x) (rises (goal.at.loop-x-preserved c).After-raised-mode))

pub returns : goal.returns
returns c =
    judged_stays _ _ _ _ c.loop-x.mode c.loop-x.invariant
    (λ q. c.loop-x-test.false (q ∙ sym (ap (λ (t : Ticks). t.0) c.in_mode.ensures)))
