-- `writer::put_time` meets its contract: the number of microseconds is put. Assumes nothing.
use mathlib.Core.Path.{ap}
use mathlib.Core.List.{[], ◌∷◌, ◌++◌}
use Rattle.decimal.specs.Number.{digits}
use Rattle.decimal.specs.Lines.{tab}
use Rattle.decimal.proofs.Room.{put_as}
use Rattle.writer.proofs.put_time.Goals as goal

pub returns : goal.returns
returns c =
    put_as (ap (λ x. digits x.0 ++ (tab ∷ [])) c.in_micros.ensures) c.put_field.ensures
