-- `serving::ServerBox` answers many lines as the box that it is a name for. Assumes nothing.
use mathlib.Core.Path.{ap, ◌∙◌}
use Rattle.serving.proofs.Inner.{as_any, many_same}
use Rattle.serving.proofs.ServerBoxLineBox.answer_many.Goals as goal

pub returns : goal.returns
returns c =
    let a = c.args in
    ap as_any c.answer_many.ensures ∙ many_same a.r a.lines.now a.told.now
