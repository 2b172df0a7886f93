-- `scheduler::many::find_lines` meets its contract: after each line the state and the rooms are what
-- the definition says of the lines so far and the ticks among them. Assumes nothing.
use Prim.Native.Nat.{◌≤◌}
use Rattle.table.specs.declared.Table.{Table}
use Rattle.events.specs.Values.{lines_said}
use Rattle.scheduler.specs.Inner.Events.{SoundRun, run_of}
use Rattle.scheduler.proofs.Inner.Many.{Seeking}
use Rattle.scheduler.proofs.many.find_lines.Given as goal

abbrev pub invariant-loop-line : goal.invariant-loop-line
invariant-loop-line l =
    (l.ticks ≤ l.line-index)
    × ((t : Table) → SoundRun t l.sheets l.initial.state →
    SoundRun t l.sheets l.state
    × Seeking (run_of t l.initial.state) (lines_said l.lines) l.initial.told l.initial.found
    (run_of t l.state) l.told l.found l.ticks l.line-index)
