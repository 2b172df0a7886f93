-- `fits::line_of` meets its contract: the room is enough for every answer. Assumes nothing.
use mathlib.Core.Path.{ap}
use native.Mathlib.Omega.{arith}
use Rattle.decimal.proofs.Room.{put_as, put_front}
use Rattle.verdict.specs.Fits.{fits_of}
use Rattle.fits.specs.Line.{fits_line}
use Rattle.fits.proofs.Line.{line_short}
use Rattle.fits.proofs.line_of.Goals as goal

pub returns : goal.returns
returns c =
    put_front (fits_line (fits_of c.args.t)) (omega (arith, line_short c.args.t, c.requires))
    (put_as (ap fits_line c.fits_of.ensures) c.put_answer.ensures)
