-- `reader::rules::task_standing` meets its contract: its limits are rounded up where its bounds are
-- kept, the tick being from 1 to 10,000. Assumes nothing.
use Rattle.std.proofs.Common.{Ok}
use mathlib.Core.Path.{sym, ◌∙◌}
use Rattle.laws.proofs.Choice.{within_low}
use Rattle.laws.proofs.Search.{failed_none}
use Rattle.table.specs.declared.Refusal.TheVariants.{OutOfBounds}
use Rattle.text.specs.Standing.{task_bounds}
use Rattle.text.proofs.Standing.{tell_kept, task_keeps_lem}
use Rattle.reader.proofs.Standing.{task_fits}
use Rattle.reader.proofs.rules.task_standing.Goals as goal

pub limits-limit-requires : goal.limits-limit-requires
limits-limit-requires c =
    let a = c.args in
    let kept = tell_kept c.task_bounds.result OutOfBounds (Ok tt) (sym c.told.ensures ∙ c.in_ok-told.was) in
    let none = sym c.task_bounds.ensures ∙ kept.0 in
    let b = (failed_none (task_bounds a.tasks a.tick.0 a.k)).0 none in (
      within_low 1 10000 _ c.requires,
      (task_fits a.tick.0 a.k (task_keeps_lem a.tasks a.tick.0 a.k b)).limits,
    )
