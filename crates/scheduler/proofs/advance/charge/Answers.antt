-- `scheduler::advance::charge` meets its contract, turn by turn. Assumes nothing.
use mathlib.Core.Path.{refl}
use mathlib.Core.Logic.{inl, inr}
use Rattle.scheduler.proofs.Inner.Steps.{charges_run, charges_empty, charges_idle}
use Rattle.scheduler.proofs.advance.charge.Goals as goal

pub returns-in-Run : goal.returns-in-Run
returns-in-Run c =
    elim c.in-Run.is [
      | inl p ↦ rw p.1 (charges_run c.in-Run.server p.0 c.args.used.now _ refl)
      | inr p ↦ rw p (charges_empty c.in-Run.server 0 c.args.used.now _ refl)
    ]

pub returns-in-Idle : goal.returns-in-Idle
returns-in-Idle c = rw c.in-Idle.is (charges_idle c.args.used.now)
