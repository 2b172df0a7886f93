-- `scheduler::choose::find_tops` meets its contract: the walk keeps each server's highest task with
-- a waiting job among the tasks passed. Assumes nothing.
use mathlib.Core.Path.{◌≡◌}
use Prim.Native.Nat.{ℕ, ◌≤◌, ◌<◌}
use lib.ListN.{length, drop}
use Rattle.table.specs.Rows.{task_priority_at}
use Rattle.table.specs.declared.Table.{Table}
use Rattle.scheduler.specs.Inner.Columns.{TasksOn}
use Rattle.scheduler.proofs.Inner.Choose.{Tops}
use Rattle.scheduler.proofs.choose.find_tops.Given as goal

abbrev pub invariant-loop-k : goal.invariant-loop-k
invariant-loop-k l = record {
  places : 32 ≤ length l.found;
  tops : length l.top ≡ 32;
  others : drop 32 l.found ≡ drop 32 l.initial.found;
  found : (t : Table) → TasksOn t l.sheets → ((j : ℕ) → j < t.ntasks → 1 ≤ task_priority_at t j) →
      Tops t l.state l.k l.found l.top;
}
