-- `framescheduler::start` meets its contract. Assumes nothing.
use mathlib.Core.Path.{sym, ◌∙◌}
use Rattle.framescheduler.proofs.Inner.{start_taken, start_unsound}
use Rattle.framescheduler.proofs.start.Goals as goal

pub returns-then-frame_table_keeps : goal.returns-then-frame_table_keeps
returns-then-frame_table_keeps c =
    rw c.fresh_state.ensures
    (start_taken c.args.t (sym c.frame_table_keeps.ensures ∙ c.if-frame_table_keeps.true))

pub returns : goal.returns
returns c =
    rw c.fresh_state.ensures
    (start_unsound c.args.t (sym c.frame_table_keeps.ensures ∙ c.if-frame_table_keeps.false))
