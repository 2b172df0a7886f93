-- `scheduler::advance::age` meets its contract: the elapsed counts passed have aged. Assumes nothing.
use mathlib.Core.Path.{◌≡◌}
use Rattle.laws.specs.Rows.{anew}
use Rattle.scheduler.proofs.Inner.Steps.{aged}
use Rattle.scheduler.proofs.advance.age.Given as goal

abbrev pub invariant-loop-i : goal.invariant-loop-i
invariant-loop-i l = l.elapsed ≡ anew l.i (aged l.sheets l.ticks) l.initial.elapsed
