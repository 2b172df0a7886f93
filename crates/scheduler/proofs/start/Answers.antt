-- `scheduler::start` meets its contract. Assumes nothing.
use mathlib.Core.Path.{sym, ◌∙◌}
use Rattle.scheduler.proofs.Inner.Events.{start_taken, start_unsound}
use Rattle.scheduler.proofs.start.Goals as goal
use Rattle.scheduler.proofs.start.Goals.{then-table_keeps, else-table_keeps}

pub returns : goal.returns
returns c =
    elim c.if-table_keeps.branch [
      | then-table_keeps w ↦
          rw (w.answer-is, c.fresh_state.ensures) (start_taken c.args.t (sym c.table_keeps.ensures ∙ w.if-table_keeps.true))
      | else-table_keeps w ↦
          rw (w.answer-is, c.fresh_state.ensures) (start_unsound c.args.t (sym c.table_keeps.ensures ∙ w.if-table_keeps.false))
    ]
