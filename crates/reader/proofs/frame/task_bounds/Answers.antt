-- `reader::frame::task_bounds` meets its contract: its tests are those of `frame_task_bounds`, in
-- their order, the limit compared in microseconds. Assumes nothing.
use mathlib.Core.Path.{◌∙◌}
use Rattle.text.proofs.Bounds.{limit_exactly}
use Rattle.frametable.specs.Rules.{frame_task_keeps}
use Rattle.frametable.specs.Text.{frame_task_bounds}
use Rattle.reader.proofs.frame.task_bounds.Goals as goal

pub returns : goal.returns
unfolding frame_task_bounds frame_task_keeps
returns c =
    let a = c.args in
    c.first_failed.ensures
    ∙ rw (
      c.is_within-partition.ensures,
      c.is_within-priority.ensures,
      c.is_within-limit.ensures,
      limit_exactly a.tick.0 a.k.limit.0 c.requires.0,
    )
