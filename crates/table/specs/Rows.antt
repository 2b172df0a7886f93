-- A table's rows, by number, and the rows in use. "Tables and states are compared on the rows in
-- use."
use Rattle.std.specs.Prelude.{Bool, true, false, List, [], ◌++◌, ℕ, zero, suc, ◌-◌, length, get_or, take, replicate}
use Rattle.laws.specs.Choice.{larger}
use Rattle.units.specs.declared.Ticks.{Ticks}
use Rattle.units.specs.declared.Micros.{Micros}
use Rattle.table.specs.declared.Kind.{Kind}
use Rattle.table.specs.declared.Kind.TheVariants.{Event, Timed}
use Rattle.table.specs.declared.Level.{Level}
use Rattle.table.specs.declared.Level.TheVariants.{LO, MI, HI}
use Rattle.table.specs.declared.Mode.{Mode}
use Rattle.table.specs.declared.Mode.TheVariants.{N, D1, D2}
use Rattle.table.specs.declared.ByMode.{ByMode}
use Rattle.table.specs.declared.Server.{Server}
use Rattle.table.specs.declared.Task.{Task}
use Rattle.table.specs.declared.Table.{Table}

abbrev pub is_timed : Kind → Bool
is_timed Event = false
is_timed Timed = true

abbrev pub is_low : Level → Bool
is_low LO = true
is_low MI = false
is_low HI = false

abbrev pub is_d2 : Mode → Bool
is_d2 N = false
is_d2 D1 = false
is_d2 D2 = true

-- "in the order N, D1, D2": they are 0, 1, 2
abbrev pub mode_value : Mode → ℕ
mode_value N = 0
mode_value D1 = 1
mode_value D2 = 2

abbrev pub mode_said : ℕ → Mode
mode_said zero = N
mode_said (suc zero) = D1
mode_said (suc (suc x)) = D2

-- what a row that holds nothing holds
abbrev pub no_ticks : ByMode Ticks
no_ticks = record { n = record { 0 = 0 }; d1 = record { 0 = 0 }; d2 = record { 0 = 0 } }

abbrev pub no_server : Server
no_server =
    record {
      partition = 0;
      kind = Event;
      priority = 0;
      period = record { 0 = 0 };
      capacity = no_ticks;
      phase = record { 0 = 0 };
    }

abbrev pub no_task : Task
no_task = record { home = 0; degraded = 0; priority = 0; level = LO; limit = no_ticks }

abbrev pub server_at : Table → ℕ → Server
server_at t i = get_or t.servers i no_server

abbrev pub task_at : Table → ℕ → Task
task_at t k = get_or t.tasks k no_task

-- "capacities in N, D1, D2", "limits for N, D1, D2": the one of a mode
abbrev pub in_mode : {A : Type 0} → ByMode A → Mode → A
in_mode x N = x.n
in_mode x D1 = x.d1
in_mode x D2 = x.d2

-- "its largest capacity"
abbrev pub largest : ByMode Ticks → Ticks
largest x = record { 0 = larger (larger x.n.0 x.d1.0) x.d2.0 }

abbrev pub priority_at : Table → ℕ → ℕ
priority_at t i = (server_at t i).priority

abbrev pub period_at : Table → ℕ → ℕ
period_at t i = (server_at t i).period.0

abbrev pub phase_at : Table → ℕ → ℕ
phase_at t i = (server_at t i).phase.0

abbrev pub capacity_at : Table → Mode → ℕ → ℕ
capacity_at t m i = (in_mode (server_at t i).capacity m).0

abbrev pub task_priority_at : Table → ℕ → ℕ
task_priority_at t k = (task_at t k).priority

abbrev pub limit_at : Table → Mode → ℕ → ℕ
limit_at t m k = (in_mode (task_at t k).limit m).0

-- the rows in use, and nothing else of a table
pub record Rows : Type 0 where
  pub tick : Micros
  pub servers : List Server
  pub tasks : List Task

abbrev pub rows_of : Table → Rows
rows_of t =
    record { tick = t.tick; servers = take t.nservers t.servers; tasks = take t.ntasks t.tasks }

abbrev pub no_rows : Rows
no_rows = record { tick = record { 0 = 0 }; servers = []; tasks = [] }

-- "A run holds at most 32 servers and 64 tasks": a table with these rows, whose others hold nothing
abbrev pub padded : {A : Type 0} → ℕ → A → List A → List A
padded n z xs = xs ++ replicate (n - length xs) z

unfoldable pub table_of : Rows → Table
table_of a =
    record {
      tick = a.tick;
      nservers = length a.servers;
      ntasks = length a.tasks;
      servers = padded 32 no_server a.servers;
      tasks = padded 64 no_task a.tasks;
    }

-- the table of nothing, which stands beside a refusal in what is read: no tick and no rows
abbrev pub no_table : Table
no_table = table_of no_rows
