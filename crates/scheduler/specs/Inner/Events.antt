-- An event on a state that is sound, behind the door: for every table whose rows stand in the sheets.
use Rattle.std.specs.Prelude.{◌≡◌, true, false, List, [], ◌∷◌, ℕ, length, Err, Ok, Result}
use Rattle.table.specs.declared.Refusal.{Refusal}
use Rattle.table.specs.declared.Refusal.TheVariants.{Unsound}
use Rattle.table.specs.declared.Table.{Table}
use Rattle.events.specs.declared.Answer.{Answer}
use Rattle.events.specs.declared.Event.{Event}
use Rattle.run.specs.declared.Run.{Run}
use Rattle.run.specs.declared.State.{State}
use Rattle.run.specs.Sound.{sound}
use Rattle.run.specs.Events.{event_of}
use Rattle.run.specs.Found.{TakenTick, taken_by, found_values}
use Rattle.run.specs.Release.{release_of}
use Rattle.scheduler.specs.declared.sheets.Sheets.{Sheets}
use Rattle.scheduler.specs.Inner.Columns.{TasksOn}
use Rattle.scheduler.specs.Inner.Steps.{Shows, none_found}

abbrev pub run_of : Table → State → Run
run_of t s = record { table = t; state = s }

-- a release of task k
abbrev pub Releases : Sheets → State → ℕ → State → Answer → Type 0
Releases ss s k s' a =
    (t : Table) → TasksOn t ss → sound (run_of t s) ≡ true →
    record { answer = a; run = run_of t s' } ≡ release_of (run_of t s) k

-- a sound run, whose table the sheets show, and whose counts stand in arrays
pub record SoundRun (t : Table) (ss : Sheets) (s : State) : Type 0 where
  pub shows : Shows t ss
  pub sound : sound (run_of t s) ≡ true
  pub used_long : length s.used ≡ 32
  pub elapsed_long : length s.elapsed ≡ 32
  pub waiting_long : length s.waiting ≡ 64
  pub runs_long : length s.runs ≡ 64

abbrev pub SomeRun : Sheets → State → Type 0
SomeRun ss s = (t : Table) × SoundRun t ss s

-- The sheets of a run that is sound; 13 of another.
abbrev pub Opens : Run → Result Sheets Refusal → Type 0
Opens r (Ok ss) = SoundRun r.table ss r.state
Opens r (Err why) = (why ≡ Unsound) × (sound r ≡ false)

-- what is found: that of the tick, if one was taken, else nothing
abbrev pub FoundAt : Table → List TakenTick → List ℕ → Type 0
FoundAt t [] f = f ≡ none_found
FoundAt t (m ∷ ms) f = f ≡ found_values t m

-- An event on a run makes the state and what is found, marked by a prime, nothing being found before
-- it.
pub record TakesOne (t : Table) (r : Run) (ev : Event) (s' : State) (f' : List ℕ) (a : Answer) : Type 0 where
  pub says : record { answer = a; run = run_of t s' } ≡ event_of r ev
  pub found : FoundAt t (taken_by r ev (event_of r ev).answer) f'

abbrev pub Takes : Sheets → Event → State → State → List ℕ → Answer → Type 0
Takes ss ev s s' f' a = (t : Table) → SoundRun t ss s → TakesOne t (run_of t s) ev s' f' a
