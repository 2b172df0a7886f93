-- What a frame box's table that keeps the rules says of its count, of each row in use and of each
-- two rows. Each is one test of the rules, at its place in the list. Assumes nothing.
use mathlib.Core.Path.{◌≡◌, ◌∙◌}
use mathlib.Core.Bool.{true}
use Prim.Native.Nat.{ℕ, ◌≤◌, ◌<◌}
use native.Mathlib.Omega.{arith}
use lib.ListN.{length, get_or}
use Rattle.laws.specs.Choice.{every, within}
use Rattle.laws.specs.Rows.{all_below}
use Rattle.laws.proofs.Rows.{all_at}
use Rattle.std.specs.Cmp.{first_so, second_so}
use Rattle.laws.proofs.Choice.{every_at, within_low, within_high}
use Rattle.table.specs.Rules.{differ}
use Rattle.table.proofs.Inner.{all_in_use, column_apart}
use Rattle.frametable.specs.declared.FrameTable.{FrameTable}
use Rattle.frametable.specs.Rows.{FrameRows, frame_rows_of, frame_table_of, no_frame_task}
use Rattle.frametable.specs.Rows.{frame_task_at, partition_at, frame_priority_at, frame_limit_at}
use Rattle.frametable.specs.Rules.{frame_task_keeps, frame_keeps, frame_table_keeps}
use Rattle.frametable.specs.Inner.{FrameSized}
use Rattle.frametable.proofs.Rows.{frame_table_rows}

pub record FrameTaskRules (t : FrameTable) (k : ℕ) : Type 0 where
  pub partition : partition_at t k ≤ 2
  pub priority_low : 1 ≤ frame_priority_at t k
  pub priority_high : frame_priority_at t k ≤ 255
  pub limit_low : 1 ≤ frame_limit_at t k
  pub limit_high : frame_limit_at t k ≤ 100000

pub record FrameTableRules (t : FrameTable) : Type 0 where
  pub tick_low : 1 ≤ t.tick.0
  pub tick_high : t.tick.0 ≤ 10000
  pub tasks_low : 1 ≤ t.ntasks
  pub tasks_high : t.ntasks ≤ 64
  pub task : (k : ℕ) → k < t.ntasks → FrameTaskRules t k
  pub tasks_differ : (i j : ℕ) → i < t.ntasks → j < t.ntasks → (i ≡ j → ⊥) →
      frame_priority_at t i ≡ frame_priority_at t j → ⊥

-- a task's row
pub frame_task_rules : (t : FrameTable) (k : ℕ) → every (frame_task_keeps (frame_task_at t k)) ≡ true → FrameTaskRules t k
unfolding frame_task_keeps
frame_task_rules t k e =
    let x = frame_task_at t k in
    let b = every_at (frame_task_keeps x) e in
    record {
      partition = within_high 0 2 x.partition (b 0);
      priority_low = within_low 1 255 x.priority (b 1);
      priority_high = within_high 1 255 x.priority (b 1);
      limit_low = within_low 1 100000 x.limit.0 (b 2);
      limit_high = within_high 1 100000 x.limit.0 (b 2);
    }

-- the tests of a whole table, by place
count_held : (t : FrameTable) → frame_table_keeps t ≡ true → within 1 64 t.ntasks ≡ true
unfolding frame_table_keeps
count_held t e = first_so (within 1 64 t.ntasks) (frame_keeps (frame_rows_of t)) e

pub frame_rows_keep : (t : FrameTable) → frame_table_keeps t ≡ true → frame_keeps (frame_rows_of t) ≡ true
unfolding frame_table_keeps
frame_rows_keep t e = second_so (within 1 64 t.ntasks) (frame_keeps (frame_rows_of t)) e

pub record FrameTests (a : FrameRows) : Type 0 where
  pub tick : within 1 10000 a.tick.0 ≡ true
  pub count : within 1 64 (length a.tasks) ≡ true
  pub tasks : all_below (length a.tasks) (λ k. every (frame_task_keeps (get_or a.tasks k no_frame_task))) ≡ true
  pub apart : differ (length a.tasks) (λ k. (get_or a.tasks k no_frame_task).priority) ≡ true

pub frame_tests : (a : FrameRows) → frame_keeps a ≡ true → FrameTests a
unfolding frame_keeps
frame_tests a e = let b = every_at _ e in record { tick = b 0; count = b 1; tasks = b 2; apart = b 3 }

-- the rules of a table
pub frame_table_rules : (t : FrameTable) → FrameSized t → frame_table_keeps t ≡ true → FrameTableRules t
frame_table_rules t z e =
    let n = count_held t e in
    let a = frame_tests (frame_rows_of t) (frame_rows_keep t e) in
    let l : t.ntasks ≤ length t.tasks = omega (arith, z.tasks, within_high 1 64 t.ntasks n) in
    let p = all_in_use (λ k. every (frame_task_keeps k)) no_frame_task t.tasks t.ntasks l ∙ a.tasks in
    record {
      tick_low = within_low 1 10000 t.tick.0 a.tick;
      tick_high = within_high 1 10000 t.tick.0 a.tick;
      tasks_low = within_low 1 64 t.ntasks n;
      tasks_high = within_high 1 64 t.ntasks n;
      task = λ k h. frame_task_rules t k (all_at (λ i. every (frame_task_keeps (frame_task_at t i))) t.ntasks k p h);
      tasks_differ = column_apart (λ k. k.priority) no_frame_task t.tasks t.ntasks l a.apart;
    }

-- rows that keep the rules make a table that does
pub frame_rows_table : (a : FrameRows) → frame_keeps a ≡ true → frame_table_keeps (frame_table_of a) ≡ true
unfolding frame_table_keeps frame_table_of
frame_rows_table a e = rw ((frame_tests a e).count, frame_table_rows a) e
