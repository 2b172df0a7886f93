-- Small tables of a frame box, worked out by hand from the words of request No. 6 and document 01,
-- and computed. A slip in a definition shows here as an equation that is false. Assumes nothing.
use Rattle.std.proofs.Common.{Some}
use mathlib.Core.Path.{◌≡◌, refl}
use mathlib.Core.Bool.{true, false}
use mathlib.Core.List.{List, [], ◌∷◌}
use Prim.Native.Nat.{ℕ, ◌+◌}
use Rattle.laws.specs.Choice.{every}
use Rattle.laws.specs.Search.{least, first_of}
use Rattle.laws.specs.Rows.{all_below, listed}
use Rattle.table.specs.Rules.{differ}
use Rattle.table.specs.Pairs.{later_equal, first_pair}
use Rattle.frametable.specs.declared.FrameTask.{FrameTask}
use Rattle.frametable.specs.declared.FrameTable.{FrameTable}
use Rattle.frametable.specs.Rows.{frame_table_of}
use Rattle.frametable.specs.Rules.{frame_task_keeps, equal_frame_tasks, frame_keeps, frame_table_keeps}

abbrev pub task : ℕ → ℕ → ℕ → FrameTask
task partition priority limit = record { partition = partition; priority = priority; limit = record { 0 = limit } }

abbrev pub table_at : ℕ → List FrameTask → FrameTable
table_at tick ks = frame_table_of (record { tick = record { 0 = tick }; tasks = ks })

-- n tasks of the panel whose priorities are 1 to n
abbrev pub many : ℕ → List FrameTask
many n = listed n (λ k. task 2 (k + 1) 1)

unfoldable computed : Unit {0}
unfolding
    every least first_of all_below listed differ later_equal first_pair frame_table_of frame_task_keeps
    frame_keeps frame_table_keeps
computed = tt

-- "partition (0 measuring, 1 alarm sending, 2 panel)", one task of each
pub each_partition : frame_table_keeps (table_at 1000 (task 0 3 5 ∷ task 1 2 1 ∷ task 2 1 100000 ∷ [])) ≡ true
unfolding computed
each_partition = refl

-- "a greater partition is 2"
pub partition_3 : frame_table_keeps (table_at 1000 (task 3 1 1 ∷ [])) ≡ false
unfolding computed
partition_3 = refl

-- "1 to 64 task lines"
pub no_task_lem : frame_table_keeps (table_at 1000 []) ≡ false
unfolding computed
no_task_lem = refl

pub tasks_64 : frame_table_keeps (table_at 1000 (many 64)) ≡ true
unfolding computed
tasks_64 = refl

pub tasks_65 : frame_table_keeps (table_at 1000 (many 65)) ≡ false
unfolding computed
tasks_65 = refl

-- 01: "priority 1 to 255", "1 to 100,000", "microseconds in a tick, 1 to 10,000"
pub priority_0 : frame_table_keeps (table_at 1000 (task 0 0 1 ∷ [])) ≡ false
unfolding computed
priority_0 = refl

pub limit_0 : frame_table_keeps (table_at 1000 (task 0 1 0 ∷ [])) ≡ false
unfolding computed
limit_0 = refl

pub limit_100001 : frame_table_keeps (table_at 1000 (task 0 1 100001 ∷ [])) ≡ false
unfolding computed
limit_100001 = refl

pub tick_10001 : frame_table_keeps (table_at 10001 (task 0 1 1 ∷ [])) ≡ false
unfolding computed
tick_10001 = refl

-- 01: "task priorities" differ, whatever the partition
pub priorities_equal : frame_table_keeps (table_at 1000 (task 0 7 1 ∷ task 1 8 1 ∷ task 2 7 1 ∷ [])) ≡ false
unfolding computed
priorities_equal = refl

-- and of two pairs the one is told whose smaller row comes first, though the other's larger row does
pub pair_told_lem : equal_frame_tasks (task 0 7 1 ∷ task 1 8 1 ∷ task 2 8 1 ∷ task 0 7 1 ∷ []) ≡ Some (0, 3)
unfolding computed
pair_told_lem = refl
