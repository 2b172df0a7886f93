-- `cutter::cut_lines` meets its contract: no byte to take, 12, and the lines. Assumes nothing.
use Rattle.std.proofs.Common.{sym, ◌∙◌}
use borrow.Author.Tests.{eqb-true, eqb-false}
use Rattle.lines.proofs.Cutting.{cut_empty, cut_short, cut_long}
use Rattle.cutter.proofs.cut_lines.Goals as goal

pub returns-then-is_empty : goal.returns-then-is_empty
returns-then-is_empty c =
    let a = c.args in
    cut_empty a.h a.input.now a.lines.now (eqb-true _ _ (sym c.if-is_empty.ensures)) _ c.hold.ensures

pub returns-then-lines-lt-LINE_VALUES : goal.returns-then-lines-lt-LINE_VALUES
returns-then-lines-lt-LINE_VALUES c =
    let a = c.args in
    cut_short a.h a.input.now a.lines.now (eqb-false _ _ (sym c.if-is_empty.ensures)) c.if-lines-lt-LINE_VALUES.true

pub returns : goal.returns
returns c =
    let a = c.args in
    c.cut_first.ensures ∙ cut_long a.h a.input.now a.lines.now c.if-lines-lt-LINE_VALUES.false
