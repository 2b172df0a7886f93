-- A frame box's table made of rows has these rows in use, and the length of its array. Assumes
-- nothing.
use mathlib.Core.Path.{◌≡◌}
use Prim.Native.Nat.{◌-◌, ◌≤◌}
use native.Mathlib.Omega.{arith}
use lib.ListN.{length, replicate, length-append, length-replicate}
use lib.Seq.{take-append_seam}
use Rattle.frametable.specs.Rows.{FrameRows, frame_rows_of, frame_table_of, no_frame_task}
use Rattle.frametable.specs.Inner.{FrameSized}

-- a table that holds the rows in use and nothing else
pub frame_table_rows : (a : FrameRows) → frame_rows_of (frame_table_of a) ≡ a
unfolding frame_table_of
frame_table_rows a = rw (take-append_seam a.tasks (replicate (64 - length a.tasks) no_frame_task))

-- and has the length of its array, where these rows are not too many
pub frame_table_sized : (a : FrameRows) → length a.tasks ≤ 64 → FrameSized (frame_table_of a)
unfolding frame_table_of
frame_table_sized a h =
    let spare = 64 - length a.tasks in
    record {
      tasks = omega (
        arith,
        length-append a.tasks (replicate spare no_frame_task),
        length-replicate spare no_frame_task,
      );
    }
