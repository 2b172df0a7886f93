-- Sheets of numbers, with w rows a column: a row written is found, cell by cell, and no other cell
-- is touched. Then what stands in each column of a table's sheets. Assumes nothing.
use mathlib.Core.Path.{◌≡◌, refl, ap, ◌∙◌}
use mathlib.Core.Bool.{not}
use mathlib.Core.List.{List}
use Prim.Native.Nat.{ℕ, ◌+◌, ◌*◌, ◌<◌}
use lib.Dec.{eqb, lit<}
use lib.ListN.{length, get_or}
use Rattle.table.specs.declared.Kind.{Kind}
use Rattle.table.specs.declared.Kind.TheVariants.{Event, Timed}
use Rattle.table.specs.declared.Level.{Level}
use Rattle.table.specs.declared.Level.TheVariants.{LO, MI, HI}
use Rattle.table.specs.declared.Mode.{Mode}
use Rattle.table.specs.declared.Mode.TheVariants.{N, D1, D2}
use Rattle.table.specs.declared.Table.{Table}
use Rattle.table.specs.Rows.{server_at, task_at, capacity_at, phase_at, is_timed, is_low}
use Rattle.run.specs.State.{owner}
use Rattle.run.specs.Tick.{height}
use Rattle.scheduler.specs.Inner.Columns.{kind_number, level_in, level_of, limits_of, timed_of, OnSheet, ServersOn, TasksOn}
use Rattle.scheduler.specs.declared.sheets.Sheets.{Sheets}
use Rattle.scheduler.specs.Inner.Choose.{owner_column, capacity_column}

-- a kind and a level, told by their numbers
pub timed_number : (k : Kind) → not (eqb (kind_number k) 0) ≡ is_timed k
timed_number Event = refl
timed_number Timed = refl

pub level_back : (l : Level) → level_in (height l) ≡ l
level_back LO = refl
level_back MI = refl
level_back HI = refl

-- the first i rows are written
abbrev pub Filled : ℕ → ℕ → (ℕ → List ℕ) → ℕ → List ℕ → Type 0
Filled w m cells i xs = (length xs ≡ m * w) × OnSheet w m cells i xs

-- what stands in the columns of the servers, and of the tasks
module _ (t : Table) (ss : Sheets) (p : ServersOn t ss) (i : ℕ) (h : i < t.nservers) where
  pub priority_on : get_or ss.servers (0 + i) 0 ≡ (server_at t i).priority
  priority_on = p.cells 0 i (lit< tt) h

  pub timed_on : timed_of ss i ≡ is_timed (server_at t i).kind
  timed_on = ap (λ x. not (eqb x 0)) (p.cells 1 i (lit< tt) h) ∙ timed_number (server_at t i).kind

  pub period_on : get_or ss.servers (64 + i) 0 ≡ (server_at t i).period.0
  period_on = p.cells 2 i (lit< tt) h

  pub capacity_on : (m : Mode) → get_or ss.servers (capacity_column m + i) 0 ≡ capacity_at t m i
  capacity_on N = p.cells 3 i (lit< tt) h
  capacity_on D1 = p.cells 4 i (lit< tt) h
  capacity_on D2 = p.cells 5 i (lit< tt) h

  pub phase_on : get_or ss.servers (192 + i) 0 ≡ phase_at t i
  phase_on = p.cells 6 i (lit< tt) h

module _ (t : Table) (ss : Sheets) (p : TasksOn t ss) (k : ℕ) (h : k < t.ntasks) where
  pub owner_on : (m : Mode) → get_or ss.tasks (owner_column m + k) 0 ≡ owner m (task_at t k)
  owner_on N = p.cells 0 k (lit< tt) h
  owner_on D1 = p.cells 1 k (lit< tt) h
  owner_on D2 = p.cells 1 k (lit< tt) h

  pub task_priority_on : get_or ss.tasks (128 + k) 0 ≡ (task_at t k).priority
  task_priority_on = p.cells 2 k (lit< tt) h

  pub level_on : level_of ss k ≡ (task_at t k).level
  level_on = ap level_in (p.cells 3 k (lit< tt) h) ∙ level_back (task_at t k).level

  pub low_on : is_low (level_of ss k) ≡ is_low (task_at t k).level
  low_on = ap is_low level_on

  pub limits_on : limits_of ss k ≡ (task_at t k).limit
  limits_on = rw (p.cells 4 k (lit< tt) h, p.cells 5 k (lit< tt) h, p.cells 6 k (lit< tt) h)
