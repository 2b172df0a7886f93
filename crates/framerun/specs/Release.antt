-- A fresh start and a release, with what is refused: "Refusals: 6, 8, 9, 10 and 13 keep their order."
use Rattle.std.specs.Prelude.{ℕ, ◌+◌, ltb, Err, Ok}
use Rattle.laws.specs.Choice.{unless◌say◌else◌}
use Rattle.table.specs.declared.Refusal.{Refusal}
use Rattle.table.specs.declared.Refusal.TheVariants.{NoTask, QueueFull, CountSpent, Unsound}
use Rattle.events.specs.declared.Answer.TheVariants.{Released, No}
use Rattle.queues.specs.Queues.{joined}
use Rattle.frametable.specs.declared.FrameTable.{FrameTable}
use Rattle.frametable.specs.Rules.{frame_table_keeps}
use Rattle.framerun.specs.declared.FrameState.{FrameState}
use Rattle.framerun.specs.declared.FrameRun.{FrameRun}
use Rattle.events.specs.declared.Begun.{Begun}
use Rattle.events.specs.declared.Answered.{Answered}
use Rattle.framerun.specs.State.{queues_of, waiting_at, with_queues, with_counts, fresh}
use Rattle.framerun.specs.Sound.{frame_sound}

-- a refusal: "state as it was", "it, as it was"
abbrev pub refused : FrameRun → Refusal → Answered FrameRun
refused r why = record { answer = No why; run = r }

-- a table with a fresh state
abbrev pub fresh_frame : FrameTable → FrameRun
fresh_frame t = record { table = t; state = fresh }

-- Start afresh with a table, or 13: no state was handed in, so what comes back is the table as it
-- was, beside a fresh state.
unfoldable pub start_of : FrameTable → Begun FrameRun
start_of t =
    unless frame_table_keeps t say record { answer = Err Unsound; run = fresh_frame t }
    else record { answer = Ok tt; run = fresh_frame t }

-- "A release adds one job at the back of its task's queue; releases are never merged."
abbrev pub with_job : FrameState → ℕ → FrameState
with_job s k = with_counts (with_queues s (joined (queues_of s) k)) s.ticks (s.accepted + 1)

-- 13 first; release 6, 8, 10
unfoldable pub release_of : FrameRun → ℕ → Answered FrameRun
release_of r k =
    unless frame_sound r say refused r Unsound
    else unless ltb k r.table.ntasks say refused r NoTask
    else unless ltb (waiting_at r.state k) 16 say refused r QueueFull
    else unless ltb r.state.accepted 4000000000 say refused r CountSpent
    else record { answer = Released k; run = record { table = r.table; state = with_job r.state k } }
