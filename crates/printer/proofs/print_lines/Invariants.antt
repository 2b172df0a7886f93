-- `printer::print_lines` meets its contract: before line i the first i are stored (Printing.antt).
-- Assumes nothing.
use Rattle.std.proofs.Common.{length}
use Rattle.printer.proofs.Printing.{Printing}
use Rattle.printer.proofs.print_lines.Given as goal

abbrev pub invariant-loop-line : goal.invariant-loop-line
invariant-loop-line l = Printing l.many l.lines l.told l.initial.room l.room l.at (length l.yielded)
