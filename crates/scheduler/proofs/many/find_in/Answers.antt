-- `scheduler::many::find_in` meets its contract: 13 is told before 12 of either room, and a sound
-- run goes to the loop behind the door. Assumes nothing.
use mathlib.Core.Path.{◌∙◌}
use Rattle.std.proofs.lemmas.Result.{err_from_is_err_and}
use Rattle.scheduler.proofs.Inner.Many.{find_unsound, find_short_told, find_short_found, find_refused, find_taken}
use Rattle.scheduler.proofs.many.find_in.Goals as goal
use Rattle.scheduler.proofs.many.find_in.Goals.{then-told-n-via-then-told-n, then-told-n-via-else-told-n+then-found-n}

pub returns-in_err-sheets : goal.returns-in_err-sheets
returns-in_err-sheets c =
    let a = c.args in
    let p = err_from_is_err_and c.from_residual.result c.from_residual.ensures.1 in
    let q = c.in_err-sheets.ensures in
    rw (p.1, p.2, q.0) (find_unsound a.run.now a.lines.now a.told.now a.found.now q.1)

pub returns-then-told-n : goal.returns-then-told-n
returns-then-told-n c =
    let a = c.args in
    find_refused a.run.now a.lines.now a.told.now a.found.now c.refusal_of.result c.refusal_of.ensures
    (λ e.
    elim c.then-told-n.branch [
      | then-told-n-via-then-told-n w ↦ find_short_told a.run.now a.lines.now a.told.now a.found.now e w.if-told-n.true
      | then-told-n-via-else-told-n+then-found-n w ↦
          find_short_found a.run.now a.lines.now a.told.now a.found.now e w.if-told-n.false w.if-found-n.true
    ])

pub returns : goal.returns
returns c =
    let a = c.args in
    let p = c.in_ok-sheets.ensures in
    c.find_lines.ensures a.run.now.table p
    ∙ find_taken a.run.now a.lines.now a.told.now a.found.now p.sound c.if-told-n.false c.if-found-n.false
