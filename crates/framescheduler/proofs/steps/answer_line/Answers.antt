-- `framescheduler::steps::answer_line` meets its contract: an event, or another line. Assumes nothing.
use mathlib.Core.Path.{ap, ◌∙◌}
use Rattle.events.specs.Values.{told_of}
use Rattle.framescheduler.proofs.steps.answer_line.Goals as goal

pub returns-in-Some : goal.returns-in-Some
returns-in-Some c =
    let a = c.event_in.ensures in
    rw c.in-Some.is
    (c.told_of.ensures ∙ ap (λ x. told_of x.answer) a, ap (λ x. x.run) a)
