-- A state's counts by row, a state with some of them changed, and a fresh one.
use Rattle.std.specs.Prelude.{Bool, ◌&&◌, List, ℕ, leb, eqb, get_or, replicate, if◌then◌else◌, None, Option}
use Rattle.laws.specs.Rows.{any_below}
use Rattle.units.specs.declared.Ticks.{Ticks}
use Rattle.table.specs.declared.Mode.{Mode}
use Rattle.table.specs.declared.Mode.TheVariants.{N, D1, D2}
use Rattle.table.specs.declared.Task.{Task}
use Rattle.table.specs.declared.Table.{Table}
use Rattle.table.specs.Rows.{task_at, phase_at, capacity_at}
use Rattle.queues.specs.Queues.{Queues, waiting_in, runs_in, waits_in, no_jobs}
use Rattle.run.specs.declared.State.{State}

abbrev pub used_at : State → ℕ → ℕ
used_at s i = get_or s.used i 0

abbrev pub elapsed_at : State → ℕ → ℕ
elapsed_at s i = get_or s.elapsed i 0

-- 02, No. 7: "Until that tick the server has no budget and is not able; from it on, periods count
-- from it." The tick of a state is the next one, whose number is that of the ticks taken.
abbrev pub started : Table → State → ℕ → Bool
started t s i = leb (phase_at t i) s.ticks.0

-- the capacity in force: that of the present mode, and none until the server has started
unfoldable pub in_force : Table → State → ℕ → ℕ
in_force t s i = if started t s i then capacity_at t s.mode i else 0

-- how much of its period passes for server i in a tick
abbrev pub passes : Table → State → ℕ → ℕ
passes t s i = if started t s i then 1 else 0

-- the tasks' queues
abbrev pub queues_of : State → Queues
queues_of s = record { waiting = s.waiting; runs = s.runs }

abbrev pub waiting_at : State → ℕ → ℕ
waiting_at s k = waiting_in (queues_of s) k

-- the run count of the front job
abbrev pub runs_at : State → ℕ → ℕ
runs_at s k = runs_in (queues_of s) k

-- "In N a task belongs to its home, else to its degraded server."
abbrev pub owner : Mode → Task → ℕ
owner N k = k.home
owner D1 k = k.degraded
owner D2 k = k.degraded

-- task k has a waiting job
abbrev pub task_waits : State → ℕ → Bool
task_waits s k = waits_in (queues_of s) k

-- task k belongs to server i and has a waiting job
abbrev pub waits_for : Table → State → ℕ → ℕ → Bool
waits_for t s i k = task_waits s k && eqb (owner s.mode (task_at t k)) i

-- server i has a waiting job
unfoldable pub waits : Table → State → ℕ → Bool
waits t s i = any_below t.ntasks (waits_for t s i)

-- some job waits
unfoldable pub some_waits : Table → State → Bool
some_waits t s = any_below t.ntasks (task_waits s)

abbrev pub with_mode : State → Mode → State
with_mode s m =
    record {
      mode = m;
      used = s.used;
      elapsed = s.elapsed;
      waiting = s.waiting;
      runs = s.runs;
      last = s.last;
      ticks = s.ticks;
      accepted = s.accepted;
    }

-- the servers' counts
abbrev pub with_budgets : State → List ℕ → List ℕ → State
with_budgets s used elapsed =
    record {
      mode = s.mode;
      used = used;
      elapsed = elapsed;
      waiting = s.waiting;
      runs = s.runs;
      last = s.last;
      ticks = s.ticks;
      accepted = s.accepted;
    }

-- the tasks' queues
abbrev pub with_queues : State → Queues → State
with_queues s q =
    record {
      mode = s.mode;
      used = s.used;
      elapsed = s.elapsed;
      waiting = q.waiting;
      runs = q.runs;
      last = s.last;
      ticks = s.ticks;
      accepted = s.accepted;
    }

abbrev pub with_last : State → Option ℕ → State
with_last s l =
    record {
      mode = s.mode;
      used = s.used;
      elapsed = s.elapsed;
      waiting = s.waiting;
      runs = s.runs;
      last = l;
      ticks = s.ticks;
      accepted = s.accepted;
    }

-- the counts of taken ticks and of accepted releases
abbrev pub with_counts : State → Ticks → ℕ → State
with_counts s ticks accepted =
    record {
      mode = s.mode;
      used = s.used;
      elapsed = s.elapsed;
      waiting = s.waiting;
      runs = s.runs;
      last = s.last;
      ticks = ticks;
      accepted = accepted;
    }

-- "A fresh run is in N, all counts 0."
abbrev pub fresh : State
fresh =
    record {
      mode = N;
      used = replicate 32 0;
      elapsed = replicate 32 0;
      waiting = no_jobs.waiting;
      runs = no_jobs.runs;
      last = None;
      ticks = record { 0 = 0 };
      accepted = 0;
    }
