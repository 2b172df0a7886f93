-- `writer::put_field` meets its contract: the number, then the tab. Assumes nothing.
use mathlib.Core.List.{[], ◌∷◌}
use Rattle.decimal.specs.Number.{digits}
use Rattle.decimal.specs.Lines.{tab}
use Rattle.decimal.proofs.Room.{put_more}
use Rattle.writer.proofs.put_field.Goals as goal

pub returns : goal.returns
returns c =
    put_more (digits c.args.n) (tab ∷ []) c.put_number-k.ensures c.put_byte.ensures
