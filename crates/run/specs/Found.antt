-- What the steps of a tick find. The ticks that are taken, each with what step 5 and step 2 found and
-- with its answer: the bounds and the morning report count over them. And what is found, as plain
-- numbers, so that it can be handed out of many ticks at once.
use Rattle.std.specs.Prelude.{List, [], ◌∷◌, ◌++◌, ℕ, replicate, None, Option, Some}
use Rattle.laws.specs.Rows.{anew}
use Rattle.table.specs.declared.Table.{Table}
use Rattle.table.specs.Rows.{task_priority_at}
use Rattle.run.specs.declared.State.{State}
use Rattle.run.specs.declared.Run.{Run}
use Rattle.events.specs.declared.TickAnswer.{TickAnswer}
use Rattle.events.specs.declared.Event.{Event}
use Rattle.events.specs.declared.Event.TheVariants.{Release, Tick}
use Rattle.events.specs.declared.Answer.{Answer}
use Rattle.events.specs.declared.Answer.TheVariants.{Released, Ticked, No}
use Rattle.run.specs.Tick.{Settled, settle, highest_task}
use Rattle.events.specs.declared.Told.TheVariants.{Ticked as ToldTicked}
use Rattle.run.specs.Events.{event_of}
use Rattle.events.specs.Values.{told_values}

-- A taken tick: what step 5 finds, how many jobs of each task step 2 discards, and what is answered.
pub record TakenTick : Type 0 where
  pub found : State
  pub discarded : ℕ → ℕ
  pub answer : TickAnswer

abbrev pub tick_taken_so : Settled → TickAnswer → TakenTick
tick_taken_so z a = record { found = z.state; discarded = z.discarded; answer = a }

-- the tick, if the event is one and is taken
abbrev pub taken_by : Run → Event → Answer → List TakenTick
taken_by r (Release k) a = []
taken_by r (Tick mark) (Released k) = []
taken_by r (Tick mark) (Ticked a) = tick_taken_so (settle r.table r.state mark) a ∷ []
taken_by r (Tick mark) (No why) = []

-- "send any events": the taken ticks among them, in order, counted from 0
unfoldable pub taken_ticks : Run → List Event → List TakenTick
taken_ticks r [] = []
taken_ticks r (e ∷ es) = taken_by r e (event_of r e).answer ++ taken_ticks (event_of r e).run es

-- "who has a waiting job at it": of server i the priority of its highest task with a waiting job, 0
-- if it has none
abbrev pub priority_found : Table → Option ℕ → ℕ
priority_found t (Some k) = task_priority_at t k
priority_found t None = 0

unfoldable pub top_priority : Table → State → ℕ → ℕ
top_priority t s i = priority_found t (highest_task t s i)

-- A taken tick's: 32 numbers of servers, as step 5 finds them, then 64 of tasks, what step 2
-- discards. Rows not in use show 0; to a server row not in use no task belongs.
unfoldable pub found_values : Table → TakenTick → List ℕ
found_values t m =
    anew 32 (λ i x. top_priority t m.found i) (replicate 32 0) ++
    anew t.ntasks (λ k x. m.discarded k) (replicate 64 0)

-- the same of some ticks, one after the other; and what is told of them
unfoldable pub all_found : Table → List TakenTick → List ℕ
all_found t [] = []
all_found t (m ∷ ms) = found_values t m ++ all_found t ms

unfoldable pub all_told : List TakenTick → List ℕ
all_told [] = []
all_told (m ∷ ms) = told_values (ToldTicked m.answer) ++ all_told ms
