-- 02, No. 1, A morning report: "one page for each night's event file". A line for each server, for
-- each task and for each mode, parted by tabs, each closed by a line feed.
use Rattle.std.specs.Prelude.{List, [], ◌∷◌, ◌++◌, ℕ, zero, suc, Err, Ok}
use Rattle.laws.specs.Quoted.{bytes}
use Rattle.decimal.specs.Number.{digits}
use Rattle.decimal.specs.Lines.{closed}
use Rattle.table.specs.declared.Mode.{Mode}
use Rattle.table.specs.declared.Mode.TheVariants.{N, D1, D2}
use Rattle.text.specs.Read.{read, shown}
use Rattle.run.specs.declared.Run.{Run}
use Rattle.events.specs.declared.Event.{Event}
use Rattle.run.specs.Release.{fresh_run}
use Rattle.lines.specs.Words.{mode_word}
use Rattle.lines.specs.EventLine.{event_lines}
use Rattle.lines.specs.AnswerLine.{printed, refused_fields}
use Rattle.morning.specs.Numbers.{events_in, ServerNumbers, TaskNumbers, server_numbers, task_numbers, mode_number}
use Rattle.text.specs.declared.ReadError.TheVariants.{Equal, Refused}
use Rattle.text.specs.TableText.{Reading}

-- `server⇥row⇥charged⇥empty⇥longest`
abbrev pub server_line : ℕ → ServerNumbers → List ℕ
server_line i n =
    printed (bytes "server" ∷ digits i ∷ digits n.charged ∷ digits n.empty ∷ digits n.longest ∷ [])

-- `task⇥row⇥finished⇥cut⇥discarded⇥waiting`
abbrev pub task_line : ℕ → TaskNumbers → List ℕ
task_line k n =
    printed
    (bytes "task"
    ∷ digits k
    ∷ digits n.finished
    ∷ digits n.cut
    ∷ digits n.discarded
    ∷ digits n.waiting
    ∷ [])

-- `mode⇥N⇥ticks`
abbrev pub mode_line : Mode → ℕ → List ℕ
mode_line m n = printed (bytes "mode" ∷ mode_word m ∷ digits n ∷ [])

-- a line for each of the first n rows
unfoldable pub row_lines : (ℕ → List ℕ) → ℕ → List (List ℕ)
row_lines line zero = []
row_lines line (suc n) = row_lines line n ++ (line n ∷ [])

-- The page of these numbers: first the servers, then the tasks, then the modes.
unfoldable pub page_lines : ℕ → ℕ → (ℕ → ServerNumbers) → (ℕ → TaskNumbers) → (Mode → ℕ) → List (List ℕ)
page_lines nservers ntasks server task mode =
    row_lines (λ i. server_line i (server i)) nservers ++
    (row_lines (λ k. task_line k (task k)) ntasks ++
    (mode_line N (mode N) ∷ mode_line D1 (mode D1) ∷ mode_line D2 (mode D2) ∷ []))

-- the page of a night, from its start
abbrev pub report_lines : Run → List Event → List (List ℕ)
report_lines r es =
    page_lines r.table.nservers r.table.ntasks (server_numbers r es) (task_numbers r es) (mode_number r es)

-- A refused table prints only its `table` line, as the night does.
unfoldable pub morning_lines : Reading → Run → List Event → List (List ℕ)
morning_lines (Ok tt) r es = report_lines r es
morning_lines (Err (Refused why line field)) r es = printed (refused_fields (Err (Refused why line field))) ∷ []
morning_lines (Err (Equal first second)) r es = printed (refused_fields (Err (Equal first second))) ∷ []

-- a table file and an event file, and all that is printed
unfoldable pub report : List ℕ → List ℕ → List ℕ
report table events =
    let d = shown (read table) in
    closed (morning_lines d.answer (fresh_run d.table) (events_in (event_lines events)))
