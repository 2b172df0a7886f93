-- 02, No. 6: what one tick of a frame box does. "Tick t has slot t mod 1,200", and the slot's partition
-- has the tick, whatever waits. What it does to the queues is crate queues'.
use Rattle.std.specs.Prelude.{Bool, true, false, not, ◌||◌, ℕ, ◌+◌, ltb, eqb, if◌then◌else◌, None, Option, Some}
use Rattle.laws.specs.Choice.{unless◌say◌else◌}
use Rattle.table.specs.declared.Mode.TheVariants.{N}
use Rattle.table.specs.declared.Refusal.TheVariants.{NoJobRan, CountSpent, Unsound}
use Rattle.slots.specs.Frame.{owner_at}
use Rattle.events.specs.declared.Turn.{Turn}
use Rattle.events.specs.declared.Left.{Left}
use Rattle.events.specs.declared.Left.TheVariants.{Nobody, Done, Cut}
use Rattle.events.specs.declared.TickAnswer.{TickAnswer}
use Rattle.events.specs.declared.Answer.TheVariants.{Ticked}
use Rattle.queues.specs.Queues.{front_gone, highest_waiting, turn_of, front_ran, last_of, ran_job}
use Rattle.frametable.specs.declared.FrameTable.{FrameTable}
use Rattle.frametable.specs.Rows.{partition_at, frame_priority_at, frame_limit_at}
use Rattle.framerun.specs.declared.FrameState.{FrameState}
use Rattle.framerun.specs.declared.FrameRun.{FrameRun}
use Rattle.events.specs.declared.Answered.{Answered}
use Rattle.framerun.specs.State.{queues_of, runs_at, with_queues, with_last, with_counts}
use Rattle.framerun.specs.Sound.{frame_sound}
use Rattle.framerun.specs.Release.{refused}

-- What the end mark leaves: a state, and the job that left.
pub record Settled : Type 0 where
  pub state : FrameState
  pub left : Left

-- the front job of task k leaves
abbrev pub without_front : FrameState → ℕ → FrameState
without_front s k = with_queues s (front_gone (queues_of s) k)

-- "step 1 only if the last taken tick ran a job": "Mark 1: that job leaves, finished." "a job reaching
-- its limit is cut": mark 0, and its run count equals its limit
unfoldable pub settle : FrameTable → FrameState → Bool → Option ℕ → Settled
settle t s mark None = record { state = s; left = Nobody }
settle t s true (Some k) = record { state = without_front s k; left = Done k }
settle t s false (Some k) =
    if eqb (runs_at s k) (frame_limit_at t k)
    then record { state = without_front s k; left = Cut k }
    else record { state = s; left = Nobody }

-- "Its highest task with a waiting job", of partition p
unfoldable pub highest_task : FrameTable → FrameState → ℕ → Option ℕ
highest_task t s p = highest_waiting t.ntasks (queues_of s) (λ k. eqb (partition_at t k) p) (frame_priority_at t)

-- the slot's partition runs its highest task's front job; "a slot whose partition has no waiting job is
-- `empty`"; "answers show the partition as server"
unfoldable pub turn_at : FrameTable → FrameState → Turn
turn_at t s = turn_of (owner_at s.ticks.0) (highest_task t s (owner_at s.ticks.0))

-- "runs the front job: run count plus 1", and "the tick number" rises by 1
unfoldable pub advance : FrameTable → FrameState → Turn → FrameState
advance t s turn =
    with_counts
    (with_last (with_queues s (front_ran t.ntasks (queues_of s) turn)) (last_of turn))
    (record { 0 = s.ticks.0 + 1 })
    s.accepted

-- "in mode N only", so nothing is discarded
abbrev pub tick_answer : FrameTable → Settled → TickAnswer
tick_answer t z =
    record { tick = z.state.ticks; mode = N; turn = turn_at t z.state; left = z.left; discarded = 0 }

-- A tick that is taken: its answer, and the state after it.
pub record Stepped : Type 0 where
  pub answer : TickAnswer
  pub state : FrameState

unfoldable pub tick_taken : FrameTable → FrameState → Bool → Stepped
tick_taken t s mark =
    let z = settle t s mark s.last in
    record { answer = tick_answer t z; state = advance t z.state (turn_at t z.state) }

abbrev pub ticked : FrameRun → Stepped → Answered FrameRun
ticked r d = record { answer = Ticked d.answer; run = record { table = r.table; state = d.state } }

-- 13 first; tick 9, 10
unfoldable pub tick_of : FrameRun → Bool → Answered FrameRun
tick_of r mark =
    unless frame_sound r say refused r Unsound
    else unless not mark || ran_job r.state.last say refused r NoJobRan
    else unless ltb r.state.ticks.0 4000000000 say refused r CountSpent
    else ticked r (tick_taken r.table r.state mark)
