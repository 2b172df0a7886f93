-- `cutter::read_line` meets its contract: what is held of the line and the bytes says what they
-- say. Assumes nothing.
use mathlib.Core.Path.{sym, ap, ◌∙◌}
use mathlib.Core.List.{◌++◌}
use Rattle.lines.specs.EventLine.{event_line}
use Rattle.lines.specs.HeldLine.{line_in}
use Rattle.lines.proofs.HeldLine.{empty_held, held_says_lem}
use Rattle.cutter.proofs.read_line.Goals as goal

pub returns-then-h-eq0 : goal.returns-then-h-eq0
returns-then-h-eq0 c =
    let a = c.args in
    c.read_event.ensures ∙ sym (ap (λ l. event_line (l ++ a.part.now)) (empty_held a.h c.if-h-eq0.true))

pub returns : goal.returns
returns c =
    let a = c.args in
    c.read_held.ensures ∙ ap (λ h. event_line (line_in h)) c.hold.ensures ∙ held_says_lem
    (line_in a.h ++ a.part.now)
