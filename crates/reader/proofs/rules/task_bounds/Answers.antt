-- `reader::rules::task_bounds` meets its contract: its tests are those of `task_bounds`, in their
-- order, the limits compared in microseconds. Assumes nothing.
use mathlib.Core.Path.{◌∙◌}
use Rattle.text.specs.Standing.{task_bounds}
use Rattle.text.proofs.Bounds.{limit_exactly}
use Rattle.reader.proofs.rules.task_bounds.Goals as goal

pub returns : goal.returns
unfolding task_bounds
returns c =
    let a = c.args in
    let h = c.requires.0 in
    c.first_failed.ensures
    ∙ rw (
      c.is_within-priority.ensures,
      c.is_within-n.ensures,
      c.is_within-d1.ensures,
      c.is_within-d2.ensures,
      limit_exactly a.tick.0 a.k.limit.n.0 h,
      limit_exactly a.tick.0 a.k.limit.d1.0 h,
      limit_exactly a.tick.0 a.k.limit.d2.0 h,
    )
