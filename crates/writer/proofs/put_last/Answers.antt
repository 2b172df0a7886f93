-- `writer::put_last` meets its contract: nothing, or the tab and the number. Assumes nothing.
use mathlib.Core.List.{[], ◌∷◌}
use Rattle.decimal.specs.Number.{digits}
use Rattle.decimal.specs.Lines.{tab, join}
use Rattle.decimal.proofs.Room.{put_none, put_more}
use Rattle.writer.proofs.put_last.Goals as goal

pub returns-in-None : goal.returns-in-None
unfolding join
returns-in-None c = let a = c.args in rw c.in-None.is (put_none a.room.now a.at)

pub returns-in-Some : goal.returns-in-Some
unfolding join
returns-in-Some c =
    rw c.in-Some.is
    (put_more (tab ∷ []) (digits c.in-Some.u.0) c.put_byte-k.ensures c.put_number.ensures)
