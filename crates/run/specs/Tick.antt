-- 01, What one tick does, step by step.
use Rattle.std.specs.Prelude.{Bool, true, false, not, ◌&&◌, ◌||◌, ℕ, zero, suc, ◌+◌, ltb, eqb, if◌then◌else◌, None, Option, Some}
use Rattle.laws.specs.Choice.{unless◌say◌else◌}
use Rattle.laws.specs.Rows.{sum_below, highest, anew}
use Rattle.units.specs.declared.Ticks.{Ticks}
use Rattle.table.specs.declared.Level.{Level}
use Rattle.table.specs.declared.Level.TheVariants.{LO, MI, HI}
use Rattle.table.specs.declared.Mode.{Mode}
use Rattle.table.specs.declared.Mode.TheVariants.{N, D1, D2}
use Rattle.table.specs.declared.Task.{Task}
use Rattle.table.specs.declared.Table.{Table}
use Rattle.table.specs.declared.Refusal.TheVariants.{NoJobRan, CountSpent, Unsound}
use Rattle.table.specs.Rows.{server_at, task_at, in_mode, period_at, priority_at, task_priority_at, is_timed, is_low, is_d2}
use Rattle.queues.specs.Queues.{front_gone, highest_waiting, turn_of, front_ran, last_of, ran_job}
use Rattle.run.specs.declared.State.{State}
use Rattle.run.specs.declared.Run.{Run}
use Rattle.events.specs.declared.Turn.{Turn}
use Rattle.events.specs.declared.Turn.TheVariants.{Idle}
use Rattle.run.specs.declared.Judged.{Judged}
use Rattle.events.specs.declared.Left.{Left}
use Rattle.events.specs.declared.Left.TheVariants.{Nobody, Done, Cut}
use Rattle.events.specs.declared.TickAnswer.{TickAnswer}
use Rattle.events.specs.declared.Answer.TheVariants.{Ticked}
use Rattle.events.specs.declared.Answered.{Answered}
use Rattle.run.specs.State.{queues_of, used_at, elapsed_at, waiting_at, runs_at, in_force, passes, owner, waits, some_waits, with_mode}
use Rattle.run.specs.State.{with_budgets, with_queues, with_last, with_counts}
use Rattle.run.specs.Sound.{sound}
use Rattle.events.specs.Answers.{charged}
use Rattle.run.specs.Release.{refused}

-- Step 1, as request No. 4 of document 02 has it: "at its limit a job raises the mode only if its
-- level lies above the present one, N counting as LO and D1 as MI; otherwise it is cut." (In the
-- manner of Condition 3 of source document 004.)

-- how high a level lies: "LO < MI < HI"
abbrev pub height : Level → ℕ
height LO = 0
height MI = 1
height HI = 2

-- "N counting as LO and D1 as MI", and D2 as HI
abbrev pub counts_as : Mode → Level
counts_as N = LO
counts_as D1 = MI
counts_as D2 = HI

-- "its level lies above the present one"
abbrev pub raises : Mode → Level → Bool
raises m l = ltb (height (counts_as m)) (height l)

-- the mode that is raised becomes the next one; above D2, where no level lies, there is none
abbrev pub raised : Mode → Mode
raised N = D1
raised D1 = D2
raised D2 = D2

-- "Mark 0 and its run count equals its limit in the present mode: .. After a rise, judge again at
-- the new limit." The job is of task k and has run c ticks; it is judged at most so many times.
unfoldable pub judge : ℕ → Task → ℕ → Mode → Judged
judge zero k c m = record { mode = m; cut = false }
judge (suc n) k c m =
    if eqb c (in_mode k.limit m).0
    then (if raises m k.level then judge n k c (raised m) else record { mode = m; cut = true })
    else record { mode = m; cut = false }

-- the front job of task k leaves: one fewer waits, and "the front job's count starts at 0"
abbrev pub without_front : State → ℕ → State
without_front s k = with_queues s (front_gone (queues_of s) k)

-- a state, and the job that left
pub record Marked : Type 0 where
  pub state : State
  pub left : Left

-- "Mark 1: that job leaves, finished."
abbrev pub finished : State → ℕ → Marked
finished s k = record { state = without_front s k; left = Done k }

-- after judging, the mode rises, and the job stays or is cut
abbrev pub judged : State → ℕ → Judged → Marked
judged s k j =
    if j.cut
    then record { state = without_front (with_mode s j.mode) k; left = Cut k }
    else record { state = with_mode s j.mode; left = Nobody }

-- "step 1 only if the last taken tick ran a job". There are three modes, so a job is judged at most
-- three times.
unfoldable pub step1 : Table → State → Bool → Option ℕ → Marked
step1 t s mark None = record { state = s; left = Nobody }
step1 t s true (Some k) = finished s k
step1 t s false (Some k) = judged s k (judge 3 (task_at t k) (runs_at s k) s.mode)

-- Step 2. "On entering D2 every waiting LO job is discarded and counted."
abbrev pub enters : Mode → Mode → Bool
enters before after = is_d2 after && not (is_d2 before)

-- the jobs of task k are discarded, the mode before step 1 having been `before`
unfoldable pub drops : Table → Mode → State → ℕ → Bool
drops t before s k = enters before s.mode && is_low (task_at t k).level

-- how many they are
unfoldable pub discards : Table → Mode → State → ℕ → ℕ
discards t before s k = if drops t before s k then waiting_at s k else 0

unfoldable pub step2 : Table → Mode → State → State
step2 t before s =
    with_queues
    s
    (record {
      waiting = anew t.ntasks (λ k w. if drops t before s k then 0 else w) s.waiting;
      runs = anew t.ntasks (λ k c. if drops t before s k then 0 else c) s.runs;
    })

-- Step 3. "Mode not N and no job waiting: mode N."
unfoldable pub step3 : Table → State → State
step3 t s = if some_waits t s then s else with_mode s N

-- Step 4. "A server whose elapsed count equals its period gets used 0 and elapsed 0."
abbrev pub refills : Table → State → ℕ → Bool
refills t s i = eqb (elapsed_at s i) (period_at t i)

unfoldable pub step4 : Table → State → State
step4 t s =
    with_budgets
    s
    (anew t.nservers (λ i u. if refills t s i then 0 else u) s.used)
    (anew t.nservers (λ i e. if refills t s i then 0 else e) s.elapsed)

-- What step 5 finds: the state after steps 1 to 4, with "the mode of a tick, the capacities in
-- force in it and who has a waiting job at it"; beside it the job that left and what step 2
-- discarded, by task.
pub record Settled : Type 0 where
  pub state : State
  pub left : Left
  pub discarded : ℕ → ℕ

unfoldable pub settle : Table → State → Bool → Settled
settle t s mark =
    let one = step1 t s mark s.last in
    record {
      state = step4 t (step3 t (step2 t s.mode one.state));
      left = one.left;
      discarded = discards t s.mode one.state;
    }

-- Step 5. "Able servers: used below capacity in the present mode, and timed, or with a waiting job.
-- The highest is charged". 02, No. 7: "Until that tick the server has no budget and is not able".
unfoldable pub able : Table → State → ℕ → Bool
able t s i = ltb (used_at s i) (in_force t s i) && (is_timed (server_at t i).kind || waits t s i)

unfoldable pub highest_able : Table → State → Option ℕ
highest_able t s = highest t.nservers (able t s) (priority_at t)

-- Step 6. "Its highest task with a waiting job runs the front job"
unfoldable pub highest_task : Table → State → ℕ → Option ℕ
highest_task t s i =
    highest_waiting t.ntasks (queues_of s) (λ k. eqb (owner s.mode (task_at t k)) i) (task_priority_at t)

-- "Each taken tick says one of three things: `run` with server and task, `empty` with the timed
-- server charged, or `idle`."
abbrev pub turn_for : (ℕ → Option ℕ) → Option ℕ → Turn
turn_for task (Some i) = turn_of i (task i)
turn_for task None = Idle

unfoldable pub choose : Table → State → Turn
choose t s = turn_for (highest_task t s) (highest_able t s)

-- What steps 5 to 7 change, the tick saying `turn`.
-- Step 5. "The highest is charged: used plus 1."
abbrev pub step5 : Table → State → Turn → State
step5 t s turn = with_budgets s (anew t.nservers (λ i u. u + charged turn i) s.used) s.elapsed

-- Step 6. "runs the front job: run count plus 1"
abbrev pub step6 : Table → State → Turn → State
step6 t s turn = with_last (with_queues s (front_ran t.ntasks (queues_of s) turn)) (last_of turn)

-- Step 7. "All elapsed counts and the tick number rise by 1." 02, No. 7: "from it on, periods count
-- from it", so until a server has started its elapsed count stays.
abbrev pub step7 : Table → State → State
step7 t s =
    with_counts
    (with_budgets s s.used (anew t.nservers (λ i e. e + passes t s i) s.elapsed))
    (record { 0 = s.ticks.0 + 1 })
    s.accepted

unfoldable pub advance : Table → State → Turn → State
advance t s turn = step7 t (step6 t (step5 t s turn) turn)

-- "With it go the mode, the job that left and how, and the number discarded."
abbrev pub tick_answer : Table → Ticks → Settled → TickAnswer
tick_answer t tick z =
    record {
      tick = tick;
      mode = z.state.mode;
      turn = choose t z.state;
      left = z.left;
      discarded = sum_below t.ntasks z.discarded;
    }

-- A tick that is taken: its answer, and the state after it.
pub record Stepped : Type 0 where
  pub answer : TickAnswer
  pub state : State

unfoldable pub tick_taken : Table → State → Bool → Stepped
tick_taken t s mark =
    let z = settle t s mark in
    record { answer = tick_answer t s.ticks z; state = advance t z.state (choose t z.state) }

abbrev pub ticked : Run → Stepped → Answered Run
ticked r d = record { answer = Ticked d.answer; run = record { table = r.table; state = d.state } }

-- "Others: 13 first; .. tick 9, 10". 9: "mark 1, but no tick was taken yet or the last one ran no job"
unfoldable pub tick_of : Run → Bool → Answered Run
tick_of r mark =
    unless sound r say refused r Unsound
    else unless not mark || ran_job r.state.last say refused r NoJobRan
    else unless ltb r.state.ticks.0 4000000000 say refused r CountSpent
    else ticked r (tick_taken r.table r.state mark)
