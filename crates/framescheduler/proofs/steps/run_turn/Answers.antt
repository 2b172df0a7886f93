-- `framescheduler::steps::run_turn` meets its contract, turn by turn. Assumes nothing.
use mathlib.Core.Path.{◌≡◌, ◌∙◌}
use mathlib.Core.List.{List}
use Prim.Native.Nat.{ℕ}
use native.Mathlib.Omega.{arith}
use Rattle.events.specs.declared.Turn.{Turn}
use Rattle.events.specs.declared.Turn.TheVariants.{Run as Ran}
use Rattle.queues.proofs.Inner.{runs_on}
use Rattle.framescheduler.specs.Inner.{TurnLow}
use Rattle.framescheduler.proofs.steps.run_turn.Goals as goal

-- the row of a turn that runs a job is in the array
fits : (t : Turn) (p k : ℕ) (c : List ℕ) → t ≡ Ran p k → TurnLow t c → TurnLow (Ran p k) c
fits t p k c e h = rw e at h

pub returns-in-Run : goal.returns-in-Run
returns-in-Run c =
    let f = fits _ _ _ _ c.in-Run.is c.requires in
    rw c.in-Run.is (c.run_front.ensures ∙ runs_on c.args.runs.now c.in-Run.task f.0 (omega (arith, f.1)))
