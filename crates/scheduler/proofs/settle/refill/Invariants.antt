-- `scheduler::settle::refill` meets its contract: the rows passed are refilled, the others as they
-- were. Assumes nothing.
use mathlib.Core.Path.{◌≡◌}
use Rattle.laws.specs.Rows.{anew}
use Rattle.scheduler.proofs.Inner.Steps.{refilled}
use Rattle.scheduler.proofs.settle.refill.Given as goal

abbrev pub invariant-loop-i : goal.invariant-loop-i
invariant-loop-i l =
    (l.used ≡ anew l.i (refilled l.sheets l.initial.elapsed) l.initial.used)
    × (l.elapsed ≡ anew l.i (refilled l.sheets l.initial.elapsed) l.initial.elapsed)
