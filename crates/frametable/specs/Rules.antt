-- 02, No. 6: the rules that a frame box's table keeps, in ticks. "The text is the tick line and 1 to
-- 64 task lines of partition (0 measuring, 1 alarm sending, 2 panel), priority and one limit"; what
-- else is asked of a tick, a priority and a limit is document 01's (crate table, specs/Rules.antt).
use Rattle.std.specs.Prelude.{Bool, ◌&&◌, List, [], ◌∷◌, ℕ, length, get_or, Option}
use Rattle.laws.specs.Choice.{every, within}
use Rattle.laws.specs.Rows.{all_below}
use Rattle.table.specs.Pairs.{first_pair}
use Rattle.table.specs.Rules.{tick_keeps, priority_keeps, limit_keeps, differ}
use Rattle.frametable.specs.declared.FrameTask.{FrameTask}
use Rattle.frametable.specs.declared.FrameTable.{FrameTable}
use Rattle.frametable.specs.Rows.{FrameRows, frame_rows_of, no_frame_task}

-- "partition (0 measuring, 1 alarm sending, 2 panel)"; "a greater partition is 2"
abbrev pub partition_keeps : ℕ → Bool
partition_keeps = within 0 2

-- "partition ..., priority and one limit"
unfoldable pub frame_task_keeps : FrameTask → List Bool
frame_task_keeps k = partition_keeps k.partition ∷ priority_keeps k.priority ∷ limit_keeps k.limit.0 ∷ []

-- 5, "equal priorities": the first pair of tasks, in document 01's order of pairs
abbrev pub equal_frame_tasks : List FrameTask → Option (ℕ × ℕ)
equal_frame_tasks ks = first_pair (length ks) (λ k. (get_or ks k no_frame_task).priority)

unfoldable pub frame_keeps : FrameRows → Bool
frame_keeps a =
    every
    (tick_keeps a.tick.0
    ∷ within 1 64 (length a.tasks)
    ∷ all_below (length a.tasks) (λ k. every (frame_task_keeps (get_or a.tasks k no_frame_task)))
    ∷ differ (length a.tasks) (λ k. (get_or a.tasks k no_frame_task).priority)
    ∷ [])

-- A table that is handed in: its count is within what a run holds, and its rows in use keep the
-- rules.
unfoldable pub frame_table_keeps : FrameTable → Bool
frame_table_keeps t = within 1 64 t.ntasks && frame_keeps (frame_rows_of t)
