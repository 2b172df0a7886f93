-- `verdicts::put_field` meets its contract: the word, then the tab. Assumes nothing.
use mathlib.Core.List.{[], ◌∷◌}
use Rattle.decimal.specs.Lines.{tab}
use Rattle.decimal.proofs.Room.{put_more}
use Rattle.verdicts.specs.Page.{verdict_word}
use Rattle.verdicts.proofs.put_field.Goals as goal

pub returns : goal.returns
returns c =
    put_more (verdict_word c.args.v) (tab ∷ []) c.put_verdict-k.ensures
    c.put_byte.ensures
