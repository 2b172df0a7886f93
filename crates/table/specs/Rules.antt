-- 01, Tables: the rules that a table keeps, in ticks.
use Rattle.std.specs.Prelude.{Bool, not, ◌&&◌, ◌||◌, List, [], ◌∷◌, ℕ, leb, ltb, eqb, length, get_or, Ok}
use Rattle.laws.specs.Choice.{unless◌say◌else◌, every, within}
use Rattle.laws.specs.Rows.{all_below}
use Rattle.table.specs.declared.Kind.{Kind}
use Rattle.table.specs.declared.ByMode.{ByMode}
use Rattle.table.specs.declared.Server.{Server}
use Rattle.table.specs.declared.Task.{Task}
use Rattle.table.specs.declared.Table.{Table}
use Rattle.table.specs.declared.Refusal.TheVariants.{AbsentRow, OtherPartition, NotTimed, OtherServer, Falling}
use Rattle.table.specs.Refusals.{is_kept, breaks, Standing}
use Rattle.table.specs.Rows.{Rows, rows_of, no_server, no_task, is_timed}
use Rattle.units.specs.declared.Ticks.{Ticks}

-- "`tick`: microseconds in a tick, 1 to 10,000."
abbrev pub tick_keeps : ℕ → Bool
tick_keeps = within 1 10000

-- "priority 1 to 255, greater first", of servers and of tasks
abbrev pub priority_keeps : ℕ → Bool
priority_keeps = within 1 255

-- "partition 0 to 15; kind; priority 1 to 255, greater first; period; capacities in N, D1, D2.
-- Period 1 to 1,000,000 ticks, capacity 0 to the period". 02, No. 7: "Each server row gets a phase,
-- 0 to period less 1".
unfoldable pub server_keeps : Server → List Bool
server_keeps s =
    within 0 15 s.partition
    ∷ priority_keeps s.priority
    ∷ within 1 1000000 s.period.0
    ∷ leb s.capacity.n.0 s.period.0
    ∷ leb s.capacity.d1.0 s.period.0
    ∷ leb s.capacity.d2.0 s.period.0
    ∷ ltb s.phase.0 s.period.0
    ∷ []

-- "limits for N, D1, D2, each rounded up to a tick, then 1 to 100,000"
abbrev pub limit_keeps : ℕ → Bool
limit_keeps = within 1 100000

-- "priority 1 to 255, greater first; level; limits for N, D1, D2"
unfoldable pub task_keeps : Task → List Bool
task_keeps k =
    priority_keeps k.priority
    ∷ limit_keeps k.limit.n.0
    ∷ limit_keeps k.limit.d1.0
    ∷ limit_keeps k.limit.d2.0
    ∷ []

-- "home server; degraded server": rows of the table
abbrev pub row_there : List Server → ℕ → Bool
row_there ss row = ltb row (length ss)

-- "The degraded server is timed and of the home's partition; for a timed home it is the home."
abbrev pub same_partition : List Server → ℕ → ℕ → Bool
same_partition ss home degraded = eqb (get_or ss degraded no_server).partition (get_or ss home no_server).partition

abbrev pub degraded_timed : List Server → ℕ → Bool
degraded_timed ss degraded = is_timed (get_or ss degraded no_server).kind

abbrev pub stays_home : Kind → ℕ → ℕ → Bool
stays_home kind home degraded = not (is_timed kind) || eqb degraded home

abbrev pub timed_at_home : List Server → ℕ → ℕ → Bool
timed_at_home ss home degraded = stays_home (get_or ss home no_server).kind home degraded

-- 02, No. 2: "absent server row, degraded server of another partition, degraded server not timed,
-- timed home with another degraded server, falling limits"; "in the order given here, the first
-- that applies being told, leftmost field concerned, the later where two fields disagree". The home
-- is field 1, the degraded server 2, the limits "for N, D1, D2", "not falling", are 5, 6 and 7.
unfoldable pub task_fault : List Server → ℕ → ℕ → ByMode Ticks → Standing
task_fault ss home degraded limit =
    unless row_there ss home say breaks AbsentRow 1
    else unless row_there ss degraded say breaks AbsentRow 2
    else unless same_partition ss home degraded say breaks OtherPartition 2
    else unless degraded_timed ss degraded say breaks NotTimed 2
    else unless timed_at_home ss home degraded say breaks OtherServer 2
    else unless leb limit.n.0 limit.d1.0 say breaks Falling 6
    else unless leb limit.d1.0 limit.d2.0 say breaks Falling 7
    else (Ok tt)

-- a task's row, beside the servers
unfoldable pub task_stands : List Server → Task → Bool
task_stands ss k = every (task_keeps k) && is_kept (task_fault ss k.home k.degraded k.limit)

-- "Server priorities differ from one another; so do task priorities."
unfoldable pub differ : ℕ → (ℕ → ℕ) → Bool
differ n priority = all_below n (λ j. all_below j (λ i. not (eqb (priority i) (priority j))))

unfoldable pub keeps : Rows → Bool
keeps a =
    every
    (tick_keeps a.tick.0
    ∷ within 1 32 (length a.servers)
    ∷ within 1 64 (length a.tasks)
    ∷ all_below (length a.servers) (λ i. every (server_keeps (get_or a.servers i no_server)))
    ∷ all_below (length a.tasks) (λ k. task_stands a.servers (get_or a.tasks k no_task))
    ∷ differ (length a.servers) (λ i. (get_or a.servers i no_server).priority)
    ∷ differ (length a.tasks) (λ k. (get_or a.tasks k no_task).priority)
    ∷ [])

-- A table that is handed in: its counts are within what a run holds, and its rows in use keep the
-- rules.
unfoldable pub table_keeps : Table → Bool
table_keeps t = within 1 32 t.nservers && (within 1 64 t.ntasks && keeps (rows_of t))
