-- `printer::put_refused` meets its contract: the line is stored at the front of an array, and put
-- from there. Assumes nothing.
use mathlib.Core.Path.{sym}
use native.Mathlib.Omega.{arith}
use lib.Seq.{length-take-le}
use Rattle.decimal.proofs.Room.{put_as}
use Rattle.lines.specs.AnswerLine.{refused_fields}
use Rattle.printer.proofs.Inner.{line_front}
use Rattle.printer.proofs.put_refused.Goals as goal

pub slice_bounds-put_all-end : goal.slice_bounds-put_all-end
slice_bounds-put_all-end c =
    let s = c.store_refused-n in sym (length-take-le s.result s.new.room (omega arith))

pub returns : goal.returns
returns c =
    put_as (line_front (refused_fields c.args.a) c.store_refused-n.ensures (omega arith))
    c.put_all.ensures
