-- The rows of a table as plain numbers, a column after the other: which tables such sheets show.
use Rattle.std.specs.Prelude.{◌≡◌, Bool, not, eqb, List, [], ◌∷◌, ℕ, zero, suc, ◌+◌, ◌*◌, ◌<◌, length, get_or, set}
use Rattle.units.specs.declared.Ticks.{Ticks}
use Rattle.table.specs.declared.ByMode.{ByMode}
use Rattle.table.specs.declared.Kind.{Kind}
use Rattle.table.specs.declared.Kind.TheVariants.{Event, Timed}
use Rattle.table.specs.declared.Level.{Level}
use Rattle.table.specs.declared.Level.TheVariants.{LO, MI, HI}
use Rattle.table.specs.declared.Server.{Server}
use Rattle.table.specs.declared.Task.{Task}
use Rattle.table.specs.declared.Table.{Table}
use Rattle.table.specs.Rows.{server_at, task_at}
use Rattle.run.specs.Tick.{height}
use Rattle.scheduler.specs.declared.sheets.Sheets.{Sheets}

abbrev pub kind_number : Kind → ℕ
kind_number Event = 0
kind_number Timed = 1

-- the level of a height
abbrev pub level_in : ℕ → Level
level_in zero = LO
level_in (suc zero) = MI
level_in (suc (suc x)) = HI

-- what the sheets say of task k and of server i
abbrev pub level_of : Sheets → ℕ → Level
level_of ss k = level_in (get_or ss.tasks (192 + k) 0)

abbrev pub limits_of : Sheets → ℕ → ByMode Ticks
limits_of ss k =
    record {
      n = record { 0 = get_or ss.tasks (256 + k) 0 };
      d1 = record { 0 = get_or ss.tasks (320 + k) 0 };
      d2 = record { 0 = get_or ss.tasks (384 + k) 0 };
    }

abbrev pub timed_of : Sheets → ℕ → Bool
timed_of ss i = not (eqb (get_or ss.servers (32 + i) 0) 0)

-- the numbers of a row, a column each
abbrev pub server_cells : Server → List ℕ
server_cells s =
    s.priority
    ∷ kind_number s.kind
    ∷ s.period.0
    ∷ s.capacity.n.0
    ∷ s.capacity.d1.0
    ∷ s.capacity.d2.0
    ∷ s.phase.0
    ∷ []

abbrev pub task_cells : Task → List ℕ
task_cells k =
    k.home
    ∷ k.degraded
    ∷ k.priority
    ∷ height k.level
    ∷ k.limit.n.0
    ∷ k.limit.d1.0
    ∷ k.limit.d2.0
    ∷ []

-- a row's numbers written at row i of a sheet with w rows a column, from column c on
abbrev pub written : ℕ → ℕ → List ℕ → ℕ → List ℕ → List ℕ
written w c [] i sheet = sheet
written w c (v ∷ vs) i sheet = written w (suc c) vs i (set sheet (c * w + i) v)

-- the first n rows stand in such a sheet of m columns, whatever its other cells hold
abbrev pub OnSheet : ℕ → ℕ → (ℕ → List ℕ) → ℕ → List ℕ → Type 0
OnSheet w m cells n sheet = (c i : ℕ) → c < m → i < n → get_or sheet (c * w + i) 0 ≡ get_or (cells i) c 0

-- the rows in use of a table, and how many they are
pub record ServersOn (t : Table) (ss : Sheets) : Type 0 where
  pub count : ss.nservers ≡ t.nservers
  pub cells : OnSheet 32 7 (λ i. server_cells (server_at t i)) t.nservers ss.servers

pub record TasksOn (t : Table) (ss : Sheets) : Type 0 where
  pub count : ss.ntasks ≡ t.ntasks
  pub cells : OnSheet 64 7 (λ k. task_cells (task_at t k)) t.ntasks ss.tasks

-- the sheets of a table: all its rows stand in them
pub record SheetsOf (t : Table) (ss : Sheets) : Type 0 where
  pub nservers : ss.nservers ≡ t.nservers
  pub ntasks : ss.ntasks ≡ t.ntasks
  pub servers : (length t.servers ≡ 32) × OnSheet 32 7 (λ i. server_cells (server_at t i)) 32 ss.servers
  pub tasks : (length t.tasks ≡ 64) × OnSheet 64 7 (λ k. task_cells (task_at t k)) 64 ss.tasks
