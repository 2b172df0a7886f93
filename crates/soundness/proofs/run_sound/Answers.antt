-- `soundness::run_sound` meets its contract: the table first, so that no row past its arrays is
-- asked for. Assumes nothing.
use mathlib.Core.Path.{sym, ◌∙◌}
use Rattle.soundness.proofs.Inner.{table_breaks, state_asked}
use Rattle.soundness.proofs.run_sound.Goals as goal

pub returns-then-not-table_keeps : goal.returns-then-not-table_keeps
returns-then-not-table_keeps c =
    table_breaks c.args.t c.args.s (sym c.table_keeps.ensures ∙ c.if-not-table_keeps.true)

pub returns : goal.returns
returns c =
    c.all_of.ensures
    ∙ rw (
      c.servers_sound-servers.ensures,
      c.tasks_sound-tasks.ensures,
      c.last_sound-last.ensures,
      c.counts_sound-counts.ensures,
    )
    (state_asked c.args.t c.args.s (sym c.table_keeps.ensures ∙ c.if-not-table_keeps.false))
