-- `fits::put_no` meets its contract: the word, then the number. Assumes nothing.
use mathlib.Core.Path.{ap}
use Rattle.decimal.specs.Number.{digits}
use Rattle.decimal.proofs.Room.{put_as}
use Rattle.fits.proofs.Line.{no_put}
use Rattle.fits.proofs.put_no.Goals as goal

pub returns : goal.returns
returns c =
    no_put _ c.put_all-k.ensures (put_as (ap digits c.number_of.ensures) c.put_number-k.ensures)
    c.put_byte.ensures
