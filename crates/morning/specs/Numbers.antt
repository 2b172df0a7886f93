-- 02, No. 1, A morning report: what each number of the page is. "All are whole numbers, counted from
-- the run's answers and, for waiting and each task's discards, from the queues as steps 5 and 2 find
-- them; refused lines count nowhere."
use Rattle.std.specs.Prelude.{Bool, ◌&&◌, List, [], ◌∷◌, ℕ, suc, eqb, if◌then◌else◌, None, Option, Some}
use Rattle.laws.specs.Choice.{larger}
use Rattle.table.specs.declared.Mode.{Mode}
use Rattle.table.specs.declared.Table.{Table}
use Rattle.run.specs.declared.Run.{Run}
use Rattle.events.specs.declared.Turn.{Turn}
use Rattle.events.specs.declared.Turn.TheVariants.{Run as Ran, Empty, Idle}
use Rattle.events.specs.declared.TickAnswer.{TickAnswer}
use Rattle.events.specs.declared.Answer.{Answer}
use Rattle.events.specs.declared.Answer.TheVariants.{Released, Ticked, No}
use Rattle.events.specs.declared.Event.{Event}
use Rattle.run.specs.State.{waits, waiting_at}
use Rattle.events.specs.Answers.{one, charged}
use Rattle.table.specs.Rows.{mode_value}
use Rattle.run.specs.Events.{after, answers}
use Rattle.events.specs.Count.{over_all, finished_of, cut_of}
use Rattle.run.specs.Count.{discarded_of}
use Rattle.run.specs.Found.{TakenTick, taken_ticks}

-- "refused lines count nowhere": another line is no event; what becomes of an event, its answer says
unfoldable pub events_in : List (Option Event) → List Event
events_in [] = []
events_in (Some e ∷ ls) = e ∷ events_in ls
events_in (None ∷ ls) = events_in ls

-- what a taken tick counts
abbrev pub by_tick : (TickAnswer → ℕ) → Answer → ℕ
by_tick f (Released k) = 0
by_tick f (Ticked a) = f a
by_tick f (No why) = 0

-- "for each server the ticks charged"
abbrev pub charged_of : ℕ → List Answer → ℕ
charged_of i = over_all (by_tick (λ a. charged a.turn i))

-- "the empty turns": 1 if the tick says `empty` with server i
abbrev pub empty_turn : Turn → ℕ → ℕ
empty_turn (Ran j k) i = 0
empty_turn (Empty j) i = one j i
empty_turn Idle i = 0

abbrev pub empty_of : ℕ → List Answer → ℕ
empty_of i = over_all (by_tick (λ a. empty_turn a.turn i))

-- "it had a waiting job and was not charged"; whether it has one, step 5 finds. A server whose
-- capacity is 0 in the mode and that has a waiting job has one, and is not charged.
unfoldable pub passed_over : Table → ℕ → TakenTick → Bool
passed_over t i m = waits t m.found i && eqb (charged m.answer.turn i) 0

-- "the longest row of ticks in which": how many of these ticks, from the first on, are such
unfoldable pub row_from : (TakenTick → Bool) → List TakenTick → ℕ
row_from such [] = 0
row_from such (m ∷ ms) = if such m then suc (row_from such ms) else 0

-- and the longest such row, whichever tick it begins with
unfoldable pub longest_row : (TakenTick → Bool) → List TakenTick → ℕ
longest_row such [] = 0
longest_row such (m ∷ ms) = larger (row_from such (m ∷ ms)) (longest_row such ms)

abbrev pub longest_wait : Table → ℕ → List TakenTick → ℕ
longest_wait t i = longest_row (passed_over t i)

-- "ticks spent in each mode"
abbrev pub in_this_mode : Mode → Mode → ℕ
in_this_mode m m' = one (mode_value m) (mode_value m')

abbrev pub mode_ticks : Mode → List Answer → ℕ
mode_ticks m = over_all (by_tick (λ a. in_this_mode m a.mode))

-- All numbers of a night: a run, from its start, and the events sent to it.
pub record ServerNumbers : Type 0 where
  pub charged : ℕ
  pub empty : ℕ
  pub longest : ℕ

pub record TaskNumbers : Type 0 where
  pub finished : ℕ
  pub cut : ℕ
  pub discarded : ℕ
  pub waiting : ℕ

abbrev pub server_numbers : Run → List Event → ℕ → ServerNumbers
server_numbers r es i =
    record {
      charged = charged_of i (answers r es);
      empty = empty_of i (answers r es);
      longest = longest_wait r.table i (taken_ticks r es);
    }

-- "for each task the jobs finished, cut, discarded and still waiting": the queue after the last line
abbrev pub task_numbers : Run → List Event → ℕ → TaskNumbers
task_numbers r es k =
    record {
      finished = finished_of k (answers r es);
      cut = cut_of k (answers r es);
      discarded = discarded_of r es k;
      waiting = waiting_at (after r es).state k;
    }

abbrev pub mode_number : Run → List Event → Mode → ℕ
mode_number r es m = mode_ticks m (answers r es)
