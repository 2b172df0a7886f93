-- `fits::put_answer` meets its contract: `yes` is its line. Assumes nothing.
use Rattle.decimal.proofs.Room.{put_as}
use Rattle.fits.proofs.Line.{yes_line}
use Rattle.fits.proofs.put_answer.Goals as goal

pub returns-in-Yes : goal.returns-in-Yes
returns-in-Yes c = rw c.in-Yes.is (put_as yes_line c.put_all.ensures)
