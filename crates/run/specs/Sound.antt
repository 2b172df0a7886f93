-- 01, Numbers for no: "A state is sound (else 13) if ..", clause by clause.
use Rattle.std.specs.Prelude.{Bool, not, ◌&&◌, ◌||◌, List, [], ◌∷◌, ℕ, leb, eqb, Option}
use Rattle.laws.specs.Choice.{every}
use Rattle.laws.specs.Rows.{all_below}
use Rattle.table.specs.declared.Table.{Table}
use Rattle.table.specs.Rows.{server_at, task_at, period_at, limit_at, largest, is_low, is_d2}
use Rattle.table.specs.Rules.{table_keeps}
use Rattle.queues.specs.Queues.{is_last}
use Rattle.queues.specs.Sound.{queue_sound, last_sound, counts_sound}
use Rattle.run.specs.declared.State.{State}
use Rattle.run.specs.declared.Run.{Run}
use Rattle.run.specs.State.{queues_of, used_at, elapsed_at, started, waiting_at, runs_at, task_waits}

-- "each server's elapsed count is at most its period, and its used count at most elapsed and at
-- most its largest capacity". 02, No. 7: "a server before its phase has used 0 and elapsed 0".
unfoldable pub sound_server : Table → State → ℕ → List Bool
sound_server t s i =
    leb (elapsed_at s i) (period_at t i)
    ∷ leb (used_at s i) (elapsed_at s i)
    ∷ leb (used_at s i) (largest (server_at t i).capacity).0
    ∷ (started t s i || eqb (used_at s i) 0 && eqb (elapsed_at s i) 0)
    ∷ []

-- "each task has at most 16 waiting; the front job's run count is 0 if none waits and else below the
-- limit of the present mode, or equal to it for the last-run job; .. no LO job waits in D2"
unfoldable pub sound_task : Table → State → ℕ → List Bool
sound_task t s k =
    every (queue_sound (limit_at t s.mode k) (waiting_at s k) (runs_at s k) (is_last s.last k))
    ∷ not (is_d2 s.mode && (is_low (task_at t k).level && task_waits s k))
    ∷ []

-- "the last-run task, if any, has a waiting job with run count at least 1, and a tick has been
-- taken"
unfoldable pub sound_last : Table → State → Option ℕ → Bool
sound_last t s l = last_sound t.ntasks (queues_of s) s.ticks.0 l

-- "the counts of taken ticks and accepted releases are within 10's bounds, the latter not below the
-- jobs waiting"
unfoldable pub sound_counts : Table → State → List Bool
sound_counts t s = counts_sound t.ntasks (waiting_at s) s.ticks.0 s.accepted

unfoldable pub sound_state : Table → State → Bool
sound_state t s =
    every
    (all_below t.nservers (λ i. every (sound_server t s i))
    ∷ all_below t.ntasks (λ k. every (sound_task t s k))
    ∷ sound_last t s s.last
    ∷ every (sound_counts t s)
    ∷ [])

-- "if its table keeps the rules"
unfoldable pub sound : Run → Bool
sound r = table_keeps r.table && sound_state r.table r.state
