-- `table::task_stands` meets its contract: the row's own numbers decide first. Assumes nothing.
use mathlib.Core.Path.{sym, ap, ◌∙◌}
use Rattle.table.specs.Refusals.{is_kept}
use Rattle.table.specs.Rules.{task_stands}
use Rattle.table.proofs.task_stands.Goals as goal

pub returns-then-not-task_keeps : goal.returns-then-not-task_keeps
unfolding task_stands
returns-then-not-task_keeps c = rw (sym c.task_keeps.ensures ∙ c.if-not-task_keeps.true)

pub returns : goal.returns
unfolding task_stands
returns c =
    rw (sym c.task_keeps.ensures ∙ c.if-not-task_keeps.false)
    (c.is_kept.ensures ∙ ap is_kept c.task_fault-fault.ensures)
