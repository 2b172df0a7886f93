-- `scheduler::advance::run_front` meets its contract, turn by turn. Assumes nothing.
use mathlib.Core.Path.{◌∙◌}
use native.Mathlib.Omega.{arith}
use Rattle.queues.proofs.Inner.{runs_on}
use Rattle.scheduler.proofs.Inner.Steps.{runs_run, runs_not}
use Rattle.scheduler.proofs.advance.run_front.Goals as goal

pub returns-in-Run : goal.returns-in-Run
returns-in-Run c =
    let k = c.in-Run.task in
    let xs = c.args.runs.now in
    let f = rw c.in-Run.is at c.requires in
    rw c.in-Run.is (runs_run c.in-Run.server k xs _ (c.run_front.ensures ∙ runs_on xs k f.0 (omega (arith, f.1))))

pub returns-in_default : goal.returns-in_default
returns-in_default c = runs_not c.args.runs.now c.args.turn c.in_default.not-Run
