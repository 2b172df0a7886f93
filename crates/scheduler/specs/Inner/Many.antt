-- Many event lines behind the door. `Rattle.run.specs.Many` says what they do.
use Rattle.std.specs.Prelude.{◌≡◌, List, ℕ, Err, Ok, Option, Result}
use Rattle.table.specs.declared.Refusal.{Refusal}
use Rattle.table.specs.declared.Table.{Table}
use Rattle.run.specs.declared.Finding.{Finding}
use Rattle.run.specs.declared.Run.{Run}
use Rattle.run.specs.declared.State.{State}
use Rattle.events.specs.declared.Event.{Event}
use Rattle.events.specs.declared.Told.{Told}
use Rattle.events.specs.Values.{lines_said}
use Rattle.run.specs.Many.{told_to, after_line, ticks_at, taken, taken_finding}
use Rattle.scheduler.specs.declared.sheets.Sheets.{Sheets}
use Rattle.scheduler.specs.Inner.Events.{SoundRun, FoundAt, run_of}

-- What is told to line l, from run r, what is found at it, and the state after it.
pub record Tells (t : Table) (x : Told) (s' : State) (f : List ℕ) (r : Run) (l : Option Event) : Type 0 where
  pub told : x ≡ told_to r l
  pub run : run_of t s' ≡ after_line r l
  pub found : FoundAt t (ticks_at r l) f

abbrev pub LineTaken : Sheets → Option Event → State → State → List ℕ → Told → Type 0
LineTaken ss l s s' f' x = (t : Table) → SoundRun t ss s → Tells t x s' f' (run_of t s) l

abbrev pub LinesTaken : Sheets → List ℕ → State → List ℕ → State → List ℕ → Type 0
LinesTaken ss lines s room s' room' =
    (t : Table) → SoundRun t ss s →
    record { many = record { answer = Ok tt; run = run_of t s' }; room = room' }
    ≡ taken (run_of t s) (lines_said lines) room

abbrev pub LinesFound : Sheets → List ℕ → State → List ℕ → List ℕ → State → ℕ → List ℕ → List ℕ → Type 0
LinesFound ss lines s told found s' ticks told' found' =
    (t : Table) → SoundRun t ss s →
    record {
      finding = record { answer = Ok tt; run = run_of t s'; ticks = ticks };
      told = told';
      found = found';
    }
    ≡ taken_finding (run_of t s) (lines_said lines) told found

-- what is handed back of many lines of which what is found is asked too
abbrev pub finding_of : Run → Result ℕ Refusal → Finding
finding_of r (Ok n) = record { answer = Ok tt; run = r; ticks = n }
finding_of r (Err why) = record { answer = Err why; run = r; ticks = 0 }
