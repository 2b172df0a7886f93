-- `scheduler::many::answer_in` meets its contract: 13 is told before 12, and a sound run
-- goes to the loop behind the door. Assumes nothing.
use mathlib.Core.Path.{◌∙◌}
use Rattle.std.proofs.lemmas.Result.{err_from_is_err_and}
use Rattle.scheduler.proofs.Inner.Many.{many_unsound, many_short, many_refused, many_taken}
use Rattle.scheduler.proofs.many.answer_in.Goals as goal

pub returns-in_err-sheets : goal.returns-in_err-sheets
returns-in_err-sheets c =
    let a = c.args in
    let p = err_from_is_err_and c.from_residual.result c.from_residual.ensures.1 in
    let q = c.in_err-sheets.ensures in
    rw (p.1, p.2, q.0) (many_unsound a.run.now a.lines.now a.told.now q.1)

pub returns-then-told-lines : goal.returns-then-told-lines
returns-then-told-lines c =
    let a = c.args in
    many_refused a.run.now a.lines.now a.told.now c.refusal_of.result c.refusal_of.ensures
    (λ s. many_short a.run.now a.lines.now a.told.now s c.if-told-lines.true)

pub returns : goal.returns
returns c =
    let a = c.args in
    let p = c.in_ok-sheets.ensures in
    c.answer_lines.ensures a.run.now.table p
    ∙ many_taken a.run.now a.lines.now a.told.now p.sound c.if-told-lines.false
