-- `scheduler::many::answer_lines` meets its contract: after each line the state and the room are what
-- the definition says of the lines so far. Assumes nothing.
use mathlib.Core.Path.{◌≡◌}
use lib.ListN.{length}
use Rattle.table.specs.declared.Table.{Table}
use Rattle.events.specs.Values.{lines_said}
use Rattle.scheduler.specs.Inner.Events.{SoundRun, run_of}
use Rattle.scheduler.proofs.Inner.Many.{Going}
use Rattle.scheduler.proofs.many.answer_lines.Given as goal

abbrev pub invariant-loop-i : goal.invariant-loop-i
invariant-loop-i l =
    (length l.told ≡ length l.initial.told)
    × ((t : Table) → SoundRun t l.sheets l.initial.state →
    SoundRun t l.sheets l.state
    × Going (run_of t l.initial.state) (lines_said l.lines) l.initial.told (run_of t l.state) l.told l.i)
