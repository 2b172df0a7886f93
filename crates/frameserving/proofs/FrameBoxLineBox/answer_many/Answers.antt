-- `frameserving::FrameBox` answers many lines as the box that it is a name for. Assumes nothing.
use mathlib.Core.Path.{ap, ◌∙◌}
use Rattle.frameserving.proofs.Inner.{as_any, many_same}
use Rattle.frameserving.proofs.FrameBoxLineBox.answer_many.Goals as goal

pub returns : goal.returns
returns c =
    let a = c.args in
    ap as_any c.answer_many.ensures ∙ many_same a.r a.lines.now a.told.now
