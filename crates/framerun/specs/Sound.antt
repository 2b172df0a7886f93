-- 01, Numbers for no: "A state is sound (else 13) if its table keeps the rules; ..", with the clauses
-- that concern tasks, the last-run job and the counts. They are those of crate queues.
use Rattle.std.specs.Prelude.{Bool, ◌&&◌, List, [], ◌∷◌, ℕ}
use Rattle.laws.specs.Choice.{every}
use Rattle.laws.specs.Rows.{all_below}
use Rattle.queues.specs.Queues.{is_last}
use Rattle.queues.specs.Sound.{queue_sound, last_sound, counts_sound}
use Rattle.frametable.specs.declared.FrameTable.{FrameTable}
use Rattle.frametable.specs.Rows.{frame_limit_at}
use Rattle.frametable.specs.Rules.{frame_table_keeps}
use Rattle.framerun.specs.declared.FrameState.{FrameState}
use Rattle.framerun.specs.declared.FrameRun.{FrameRun}
use Rattle.framerun.specs.State.{queues_of, waiting_at, runs_at}

-- "each task has at most 16 waiting; the front job's run count is 0 if none waits and else below the
-- limit .., or equal to it for the last-run job"
unfoldable pub sound_task : FrameTable → FrameState → ℕ → List Bool
sound_task t s k = queue_sound (frame_limit_at t k) (waiting_at s k) (runs_at s k) (is_last s.last k)

-- "the last-run task, if any, has a waiting job with run count at least 1, and a tick has been taken;
-- .. the counts of taken ticks and accepted releases are within 10's bounds, the latter not below the
-- jobs waiting"
unfoldable pub sound_state : FrameTable → FrameState → Bool
sound_state t s =
    every
    (all_below t.ntasks (λ k. every (sound_task t s k))
    ∷ last_sound t.ntasks (queues_of s) s.ticks.0 s.last
    ∷ every (counts_sound t.ntasks (waiting_at s) s.ticks.0 s.accepted)
    ∷ [])

-- "if its table keeps the rules"
unfoldable pub frame_sound : FrameRun → Bool
frame_sound r = frame_table_keeps r.table && sound_state r.table r.state
