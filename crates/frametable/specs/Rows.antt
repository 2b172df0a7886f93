-- The rows of a frame box's table, by number, and the rows in use. "Tables and states are compared
-- on the rows in use."
use Rattle.std.specs.Prelude.{List, [], ℕ, length, get_or, take}
use Rattle.units.specs.declared.Micros.{Micros}
use Rattle.table.specs.Rows.{padded}
use Rattle.frametable.specs.declared.FrameTask.{FrameTask}
use Rattle.frametable.specs.declared.FrameTable.{FrameTable}

-- what a row that holds nothing holds
abbrev pub no_frame_task : FrameTask
no_frame_task = record { partition = 0; priority = 0; limit = record { 0 = 0 } }

abbrev pub frame_task_at : FrameTable → ℕ → FrameTask
frame_task_at t k = get_or t.tasks k no_frame_task

abbrev pub partition_at : FrameTable → ℕ → ℕ
partition_at t k = (frame_task_at t k).partition

abbrev pub frame_priority_at : FrameTable → ℕ → ℕ
frame_priority_at t k = (frame_task_at t k).priority

abbrev pub frame_limit_at : FrameTable → ℕ → ℕ
frame_limit_at t k = (frame_task_at t k).limit.0

-- the rows in use, and nothing else of a table
pub record FrameRows : Type 0 where
  pub tick : Micros
  pub tasks : List FrameTask

abbrev pub frame_rows_of : FrameTable → FrameRows
frame_rows_of t = record { tick = t.tick; tasks = take t.ntasks t.tasks }

abbrev pub no_frame_rows : FrameRows
no_frame_rows = record { tick = record { 0 = 0 }; tasks = [] }

-- a table with these rows, whose others hold nothing
unfoldable pub frame_table_of : FrameRows → FrameTable
frame_table_of a = record { tick = a.tick; ntasks = length a.tasks; tasks = padded 64 no_frame_task a.tasks }

-- the table of nothing, which stands beside a refusal in what is read: no tick and no rows
abbrev pub no_frame_table : FrameTable
no_frame_table = frame_table_of no_frame_rows
