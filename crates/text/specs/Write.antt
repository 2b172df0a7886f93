-- 01, Tables and Numbers for no: the text of a table's rows, and what the writer answers and leaves
-- in the lent room.
use Rattle.std.specs.Prelude.{Bool, true, not, ◌&&◌, List, [], ◌∷◌, ◌++◌, map, ℕ, ◌*◌, leb, eqb, length, drop, if◌then◌else◌, Err, None, Ok, Option, Result, Some}
use Rattle.laws.specs.Choice.{unless◌say◌else◌, every}
use Rattle.decimal.specs.Lines.{line_feed, split, closed}
use Rattle.units.specs.declared.Ticks.{Ticks}
use Rattle.units.specs.declared.Micros.{Micros}
use Rattle.table.specs.declared.ByMode.{ByMode}
use Rattle.table.specs.declared.Server.{Server}
use Rattle.table.specs.declared.Task.{Task}
use Rattle.table.specs.declared.Table.{Table}
use Rattle.table.specs.declared.Refusal.{Refusal}
use Rattle.table.specs.declared.Refusal.TheVariants.{RoomShort, Unsound}
use Rattle.table.specs.Refusals.{number_of}
use Rattle.table.specs.Rows.{Rows, rows_of}
use Rattle.table.specs.Rules.{table_keeps}
use Rattle.text.specs.declared.ServerLine.{ServerLine}
use Rattle.text.specs.declared.TaskLine.{TaskLine}
use Rattle.text.specs.declared.Line.{Line}
use Rattle.text.specs.declared.Line.TheVariants.{OfTick, OfServer, OfTask, Malformed}
use Rattle.text.specs.Line.{read_line, write_line}
use Rattle.text.specs.Standing.{whole}

-- "text holds microseconds, a run holds ticks": back to microseconds, in a table whose tick is t
-- microseconds
abbrev pub in_micros : ℕ → Ticks → Micros
in_micros t x = record { 0 = x.0 * t }

abbrev pub times_back : ℕ → ByMode Ticks → ByMode Micros
times_back t x = record { n = in_micros t x.n; d1 = in_micros t x.d1; d2 = in_micros t x.d2 }

-- 02, No. 7: at phase 0 "the writer then leaves the field out"
abbrev pub phase_back : ℕ → Ticks → Option Micros
phase_back t x = if eqb x.0 0 then None else Some (in_micros t x)

abbrev pub server_back : ℕ → Server → ServerLine
server_back t s =
    record {
      partition = s.partition;
      kind = s.kind;
      priority = s.priority;
      period = in_micros t s.period;
      capacity = times_back t s.capacity;
      phase = phase_back t s.phase;
    }

abbrev pub task_back : ℕ → Task → TaskLine
task_back t k =
    record {
      home = k.home;
      degraded = k.degraded;
      priority = k.priority;
      level = k.level;
      limit = times_back t k.limit;
    }

unfoldable pub server_lines : ℕ → List Server → List Line
server_lines t ss = map (λ s. OfServer (server_back t s)) ss

unfoldable pub task_lines : ℕ → List Task → List Line
task_lines t ks = map (λ k. OfTask (task_back t k)) ks

-- "one `tick` line, then 1 to 32 `server` lines, then 1 to 64 `task` lines"
unfoldable pub lines_of : Rows → List Line
lines_of a = OfTick a.tick ∷ (server_lines a.tick.0 a.servers ++ task_lines a.tick.0 a.tasks)

-- "each closed by a line feed, the last too"
unfoldable pub write : Rows → List ℕ
write a = closed (map write_line (lines_of a))

-- The paper's number of each answer, 0 where the text is written, and the value with it: how many
-- bytes are the text.
abbrev pub writing_number : Result ℕ Refusal → ℕ
writing_number (Ok many) = 0
writing_number (Err why) = number_of why

abbrev pub writing_values : Result ℕ Refusal → List ℕ
writing_values (Ok many) = many ∷ []
writing_values (Err why) = []

-- The answer, and the lent room after it.
pub record Wrote : Type 0 where
  pub answer : Result ℕ Refusal
  pub room : List ℕ

-- 12: "room as it was"; 13: "it, as it was"
abbrev pub unwritten : Refusal → List ℕ → Wrote
unwritten why room = record { answer = Err why; room = room }

-- "A writer changes nothing beyond the text."
abbrev pub written : List ℕ → List ℕ → Wrote
written text room = record { answer = Ok (length text); room = text ++ drop (length text) room }

-- "Others: 13 first"; 12, "lent room shorter than the text"
unfoldable pub wrote : Table → List ℕ → Wrote
wrote t room =
    unless table_keeps t say unwritten Unsound room
    else unless leb (length (write (rows_of t))) (length room) say unwritten RoomShort room
    else written (write (rows_of t)) room

-- "Reading then writing gives the same text exactly when each task time was whole ticks."
abbrev pub task_times_whole : ℕ → Line → Bool
task_times_whole t (OfTick u) = true
task_times_whole t (OfServer s) = true
task_times_whole t (OfTask k) = every (whole t k.limit.n ∷ whole t k.limit.d1 ∷ whole t k.limit.d2 ∷ [])
task_times_whole t (Malformed word field) = true

-- what p asks of a line, asked of each
unfoldable pub all_lines : (Line → Bool) → List (List ℕ) → Bool
all_lines p [] = true
all_lines p (l ∷ ls) = p (read_line l) && all_lines p ls

-- of a text that is read to a table whose tick is t microseconds
abbrev pub times_whole : ℕ → List ℕ → Bool
times_whole t text = all_lines (task_times_whole t) (split line_feed text)

-- 02, No. 7: "so 01's rule on reading then writing also asks that no phase 0 was written"
abbrev pub not_zero : Option Micros → Bool
not_zero None = true
not_zero (Some u) = not (eqb u.0 0)

abbrev pub phase_not_zero : Line → Bool
phase_not_zero (OfTick u) = true
phase_not_zero (OfServer s) = not_zero s.phase
phase_not_zero (OfTask k) = true
phase_not_zero (Malformed word field) = true

abbrev pub no_phase_zero : List ℕ → Bool
no_phase_zero text = all_lines phase_not_zero (split line_feed text)
