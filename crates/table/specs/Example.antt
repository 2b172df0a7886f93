-- The table of document 01's example, as rows.
use Rattle.std.specs.Prelude.{List, [], ◌∷◌, ℕ}
use Rattle.table.specs.declared.Kind.{Kind}
use Rattle.table.specs.declared.Kind.TheVariants.{Event, Timed}
use Rattle.table.specs.declared.Level.{Level}
use Rattle.table.specs.declared.Level.TheVariants.{LO, MI, HI}
use Rattle.table.specs.declared.ByMode.{ByMode}
use Rattle.table.specs.declared.Server.{Server}
use Rattle.table.specs.declared.Task.{Task}
use Rattle.table.specs.declared.Table.{Table}
use Rattle.table.specs.Rows.{Rows, table_of}
use Rattle.units.specs.declared.Ticks.{Ticks}

abbrev pub by_mode : ℕ → ℕ → ℕ → ByMode Ticks
by_mode a b c = record { n = record { 0 = a }; d1 = record { 0 = b }; d2 = record { 0 = c } }

-- 02, No. 7: a server that starts with the tick of its phase, and one "without the field", which
-- "has phase 0"
abbrev pub late_server : ℕ → ℕ → Kind → ℕ → ℕ → ByMode Ticks → Server
late_server phase partition kind priority period capacity =
    record {
      partition = partition;
      kind = kind;
      priority = priority;
      period = record { 0 = period };
      capacity = capacity;
      phase = record { 0 = phase };
    }

abbrev pub server : ℕ → Kind → ℕ → ℕ → ByMode Ticks → Server
server = late_server 0

abbrev pub task : ℕ → ℕ → ℕ → Level → ByMode Ticks → Task
task home degraded priority level limit =
    record { home = home; degraded = degraded; priority = priority; level = level; limit = limit }

abbrev pub rows : List Server → List Task → Rows
rows ss ks = record { tick = record { 0 = 1000 }; servers = ss; tasks = ks }

unfoldable pub example : Table
example =
    table_of
    (rows
    (server 0 Event 30 10 (by_mode 2 0 0) ∷ server 0 Timed 20 20 (by_mode 5 7 7) ∷ server 1 Timed 10 40 (by_mode 8 8 4) ∷ [])
    (task 0 1 50 HI (by_mode 1 2 3) ∷ task 1 1 40 MI (by_mode 3 4 4) ∷ task 2 2 10 LO (by_mode 2 2 2) ∷ []))
