-- `writer::put_servers` meets its contract: before row i the lines of the first i rows are put.
-- Assumes nothing.
use mathlib.Core.List.{map}
use lib.ListN.{take}
use Rattle.decimal.specs.Lines.{closed}
use Rattle.decimal.specs.Room.{Put}
use Rattle.text.specs.Line.{write_line}
use Rattle.text.specs.Write.{server_lines}
use Rattle.writer.proofs.put_servers.Given as goal

abbrev pub invariant-loop-s : goal.invariant-loop-s
invariant-loop-s l =
    Put (closed (map write_line (server_lines l.tick.0 (take l.s-index l.ss)))) l.initial.room l.at l.room l.k
