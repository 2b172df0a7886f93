-- `verdicts::put_page` meets its contract: before row i the lines of the first i rows are put.
-- Assumes nothing.
use Rattle.decimal.specs.Lines.{closed}
use Rattle.decimal.specs.Room.{Put}
use Rattle.verdict.specs.Fits.{verdicts_of}
use Rattle.verdicts.specs.Page.{row_lines}
use Rattle.verdicts.proofs.put_page.Given as goal

abbrev pub invariant-loop-row : goal.invariant-loop-row
invariant-loop-row l = Put (closed (row_lines (verdicts_of l.fn.t) l.row)) l.initial.room 0 l.room l.k
