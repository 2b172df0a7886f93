-- A queue as a thing of its own: of each task "the number of its waiting jobs and the run count of the
-- front one", and the last-run job. What a release, a job that leaves and a job that runs make of
-- them, the same in every box. (01, What one tick does.)
use Rattle.std.specs.Prelude.{Bool, true, false, ◌&&◌, List, ℕ, ◌+◌, ◌-◌, ltb, eqb, get_or, set, replicate, None, Option, Some}
use Rattle.laws.specs.Rows.{highest, anew}
use Rattle.events.specs.declared.Turn.{Turn}
use Rattle.events.specs.declared.Turn.TheVariants.{Run as Ran, Empty, Idle}
use Rattle.events.specs.Answers.{ran}

-- the queues of all tasks, row by row
pub record Queues : Type 0 where
  pub waiting : List ℕ
  pub runs : List ℕ

abbrev pub waiting_in : Queues → ℕ → ℕ
waiting_in q k = get_or q.waiting k 0

-- the run count of the front job
abbrev pub runs_in : Queues → ℕ → ℕ
runs_in q k = get_or q.runs k 0

-- task k has a waiting job
abbrev pub waits_in : Queues → ℕ → Bool
waits_in q k = ltb 0 (waiting_in q k)

-- no job waits, "all counts 0"
abbrev pub no_jobs : Queues
no_jobs = record { waiting = replicate 64 0; runs = replicate 64 0 }

-- "A release adds one job at the back of its task's queue; releases are never merged."
abbrev pub joined : Queues → ℕ → Queues
joined q k = record { waiting = set q.waiting k (waiting_in q k + 1); runs = q.runs }

-- the front job of task k leaves: one fewer waits, and "the front job's count starts at 0"
abbrev pub front_gone : Queues → ℕ → Queues
front_gone q k = record { waiting = set q.waiting k (waiting_in q k - 1); runs = set q.runs k 0 }

-- "Its highest task with a waiting job": of n tasks, those of `mine` being its own
abbrev pub highest_waiting : ℕ → Queues → (ℕ → Bool) → (ℕ → ℕ) → Option ℕ
highest_waiting n q mine priority = highest n (λ k. waits_in q k && mine k) priority

-- what is said of the tick: `run` with the task found, `empty` where none is. It is server i's.
abbrev pub turn_of : ℕ → Option ℕ → Turn
turn_of i (Some k) = Ran i k
turn_of i None = Empty i

-- "runs the front job: run count plus 1", n tasks being in use and the tick saying `turn`
abbrev pub front_ran : ℕ → Queues → Turn → Queues
front_ran n q turn = record { waiting = q.waiting; runs = anew n (λ k c. c + ran turn k) q.runs }

-- the job that is run in this tick is the last-run job of the next
abbrev pub last_of : Turn → Option ℕ
last_of (Ran i k) = Some k
last_of (Empty i) = None
last_of Idle = None

-- task k is the last-run one
abbrev pub is_last : Option ℕ → ℕ → Bool
is_last None k = false
is_last (Some j) k = eqb j k

-- the last taken tick ran a job
abbrev pub ran_job : Option ℕ → Bool
ran_job None = false
ran_job (Some k) = true
