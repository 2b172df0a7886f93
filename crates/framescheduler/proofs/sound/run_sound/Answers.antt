-- `framescheduler::sound::run_sound` meets its contract: the table first, so that no row past its array is
-- asked for. Assumes nothing.
use mathlib.Core.Path.{◌≡◌, sym, ◌∙◌}
use mathlib.Core.Bool.{true}
use Rattle.frametable.specs.Rules.{frame_table_keeps}
use Rattle.framescheduler.proofs.Inner.{table_breaks, state_asked, tasks_fit}
use Rattle.framescheduler.proofs.sound.run_sound.Goals as goal
use Rattle.framescheduler.proofs.sound.run_sound.Goals.{Else-not-frame_table_keeps}

pub returns-then-not-frame_table_keeps : goal.returns-then-not-frame_table_keeps
returns-then-not-frame_table_keeps c =
    table_breaks c.args.r.now.table c.args.r.now.state
    (sym c.frame_table_keeps.ensures ∙ c.if-not-frame_table_keeps.true)

kept : (c : Else-not-frame_table_keeps) → frame_table_keeps c.args.r.now.table ≡ true
kept c = sym c.frame_table_keeps.ensures ∙ c.if-not-frame_table_keeps.false

pub tasks_sound-tasks-requires : goal.tasks_sound-tasks-requires
tasks_sound-tasks-requires c = tasks_fit _ (kept (goal.at.tasks_sound-tasks-requires c).Else-not-frame_table_keeps)

pub returns : goal.returns
returns c =
    c.all_of.ensures
    ∙ rw (
      c.tasks_sound-tasks.ensures,
      c.last_sound-last.ensures,
      c.counts_sound-counts.ensures,
    )
    (state_asked c.args.r.now.table c.args.r.now.state (kept (goal.at.returns c).Else-not-frame_table_keeps))
