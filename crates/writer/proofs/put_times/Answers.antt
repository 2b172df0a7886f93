-- `writer::put_times` meets its contract: two fields with the tab after each, and the last one.
-- Assumes nothing.
use mathlib.Core.Path.{ap}
use mathlib.Core.List.{[], ◌∷◌}
use Rattle.decimal.specs.Number.{digits}
use Rattle.decimal.specs.Lines.{join}
use Rattle.decimal.proofs.Room.{put_as}
use Rattle.text.specs.Write.{times_back}
use Rattle.writer.proofs.Write.{put_joined}
use Rattle.writer.proofs.put_times.Goals as goal

pub returns : goal.returns
unfolding join
returns c =
    let a = c.args in
    let x = times_back a.tick.0 a.x in
    let u = digits x.n.0 in
    let v = digits x.d1.0 in
    let w = digits x.d2.0 in
    put_joined u v (w ∷ []) c.put_time-k.ensures
    (put_joined v w [] c.put_time-k-2.ensures
    (put_as (ap (λ y. digits y.0) c.in_micros.ensures) c.put_number.ensures))
