-- A fresh start and a release, with what is refused.
use Rattle.std.specs.Prelude.{not, ◌&&◌, ℕ, ◌+◌, ltb, Err, Ok}
use Rattle.laws.specs.Choice.{unless◌say◌else◌}
use Rattle.table.specs.declared.Table.{Table}
use Rattle.table.specs.declared.Refusal.{Refusal}
use Rattle.table.specs.declared.Refusal.TheVariants.{NoTask, LowInD2, QueueFull, CountSpent, Unsound}
use Rattle.table.specs.Rows.{task_at, is_low, is_d2}
use Rattle.table.specs.Rules.{table_keeps}
use Rattle.queues.specs.Queues.{joined}
use Rattle.run.specs.declared.State.{State}
use Rattle.run.specs.declared.Run.{Run}
use Rattle.events.specs.declared.Answer.TheVariants.{Released, No}
use Rattle.events.specs.declared.Begun.{Begun}
use Rattle.events.specs.declared.Answered.{Answered}
use Rattle.run.specs.State.{queues_of, waiting_at, with_queues, with_counts, fresh}
use Rattle.run.specs.Sound.{sound}

-- a refusal: "state as it was", "it, as it was"
abbrev pub refused : Run → Refusal → Answered Run
refused r why = record { answer = No why; run = r }

-- a table with a fresh state
abbrev pub fresh_run : Table → Run
fresh_run t = record { table = t; state = fresh }

-- Start afresh with a table, or 13: no state was handed in, so what comes back is the table as it
-- was, beside a fresh state.
unfoldable pub start_of : Table → Begun Run
start_of t =
    unless table_keeps t say record { answer = Err Unsound; run = fresh_run t }
    else record { answer = Ok tt; run = fresh_run t }

-- "A release adds one job at the back of its task's queue; releases are never merged."
abbrev pub with_job : State → ℕ → State
with_job s k = with_counts (with_queues s (joined (queues_of s) k)) s.ticks (s.accepted + 1)

-- "Others: 13 first; release 6, 7, 8, 10"
unfoldable pub release_of : Run → ℕ → Answered Run
release_of r k =
    unless sound r say refused r Unsound
    else unless ltb k r.table.ntasks say refused r NoTask
    else unless not (is_d2 r.state.mode && is_low (task_at r.table k).level) say refused r LowInD2
    else unless ltb (waiting_at r.state k) 16 say refused r QueueFull
    else unless ltb r.state.accepted 4000000000 say refused r CountSpent
    else record { answer = Released k; run = record { table = r.table; state = with_job r.state k } }
