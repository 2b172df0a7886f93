-- `framescheduler::steps::answer_lines` meets its contract: after each line the parts of the run and the room
-- are what the definition says of the lines so far. Assumes nothing.
use mathlib.Core.Path.{◌≡◌}
use lib.ListN.{length}
use Rattle.events.specs.Values.{lines_said}
use Rattle.events.proofs.Boxes.{Going}
use Rattle.framerun.specs.Events.{frame_box}
use Rattle.framescheduler.specs.Inner.{SoundRun}
use Rattle.framescheduler.proofs.steps.answer_lines.Given as goal

abbrev pub invariant-loop-i : goal.invariant-loop-i
invariant-loop-i l =
    (length l.told ≡ length l.initial.told)
    × SoundRun l.r
    × Going frame_box l.initial.r (lines_said l.lines) l.initial.told l.r l.told l.i
