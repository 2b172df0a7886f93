-- `writer::put_tasks` meets its contract: before row i the lines of the first i rows are put.
-- Assumes nothing.
use mathlib.Core.List.{map}
use lib.ListN.{take}
use Rattle.decimal.specs.Lines.{closed}
use Rattle.decimal.specs.Room.{Put}
use Rattle.text.specs.Line.{write_line}
use Rattle.text.specs.Write.{task_lines}
use Rattle.writer.proofs.put_tasks.Given as goal

abbrev pub invariant-loop-x : goal.invariant-loop-x
invariant-loop-x l =
    Put (closed (map write_line (task_lines l.tick.0 (take l.x-index l.ks)))) l.initial.room l.at l.room l.k
