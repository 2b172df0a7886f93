-- `fits::put_miss` meets its contract: the line field by field. Assumes nothing.
use Rattle.fits.proofs.Line.{miss_put}
use Rattle.fits.proofs.put_miss.Goals as goal

pub returns : goal.returns
returns c =
    let a = c.args in
    miss_put a.m a.row c.put_all-k.ensures c.put_mode-k.ensures c.put_byte-k.ensures
    c.put_number-k.ensures c.put_byte.ensures
