-- Steps 5 and 6 on what they look at: who is charged and who runs. `Rattle.run.specs.Tick` says the
-- steps.
use Rattle.std.specs.Prelude.{◌≡◌, List, ◌++◌, ℕ, ◌+◌, ◌≤◌, ◌<◌, ltb, get_or, drop, replicate, Option}
use Rattle.laws.specs.Rows.{anew, found_by}
use Rattle.table.specs.declared.Mode.{Mode}
use Rattle.table.specs.declared.Table.{Table}
use Rattle.table.specs.Rows.{in_mode, priority_at, task_priority_at}
use Rattle.events.specs.declared.Turn.{Turn}
use Rattle.run.specs.declared.State.{State}
use Rattle.run.specs.Found.{top_priority}
use Rattle.run.specs.State.{waits}
use Rattle.run.specs.Tick.{choose, highest_able, highest_task}
use Rattle.scheduler.specs.declared.sheets.Sheets.{Sheets}
use Rattle.scheduler.specs.Inner.Columns.{ServersOn, TasksOn}
use Rattle.scheduler.specs.Inner.Steps.{Shows}

-- where the columns of a mode begin: the owners, the capacities in force
abbrev pub owner_column : Mode → ℕ
owner_column m = in_mode (record { n = 0; d1 = 64; d2 = 64 }) m

abbrev pub capacity_column : Mode → ℕ
capacity_column m = in_mode (record { n = 96; d1 = 128; d2 = 160 }) m

-- tasks in use belong to rows of servers, and their priorities are at most 255
pub record Owned (ss : Sheets) (m : Mode) : Type 0 where
  pub few : ss.ntasks ≤ 64
  pub owner : (k : ℕ) → k < ss.ntasks → get_or ss.tasks (owner_column m + k) 0 < 32
  pub priority : (k : ℕ) → k < ss.ntasks → get_or ss.tasks (128 + k) 0 ≤ 255

-- what is found, once the priorities of the servers' highest tasks are noted in their places
abbrev pub with_tops : (ℕ → ℕ) → List ℕ → List ℕ
with_tops priority f = anew 32 (λ i x. priority i) (replicate 32 0) ++ drop 32 f

-- Of each server, its highest task with a waiting job is found, priorities being at least 1.
abbrev pub TopsFound : Sheets → State → List ℕ → List ℕ → List ℕ → Type 0
TopsFound ss s f f' top =
    (t : Table) → TasksOn t ss → ((k : ℕ) → k < t.ntasks → 1 ≤ task_priority_at t k) →
    (f' ≡ with_tops (top_priority t s) f)
    × ((i : ℕ) → i < 32 → found_by (get_or f' i 0) (get_or top i 0) ≡ highest_task t s i)

-- The highest able server is found, where f says which servers have a waiting job.
abbrev pub AbleFound : Sheets → State → List ℕ → Option ℕ → Type 0
AbleFound ss s f r =
    (t : Table) → ServersOn t ss → ((i : ℕ) → i < t.nservers → 1 ≤ priority_at t i) →
    ((i : ℕ) → i < t.nservers → ltb 0 (get_or f i 0) ≡ waits t s i) →
    r ≡ highest_able t s

abbrev pub Chooses : Sheets → State → List ℕ → List ℕ → Turn → Type 0
Chooses ss s f f' r =
    (t : Table) → Shows t ss → (r ≡ choose t s) × (f' ≡ with_tops (top_priority t s) f)
