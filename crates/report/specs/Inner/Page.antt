-- Only contracts of inner functions cite this file; a buyer need not read it. The parts of a page
-- whose numbers stand in the columns of Counts, as they are put one after the other.
use Rattle.std.specs.Prelude.{List, [], ◌∷◌, ℕ, ◌*◌, ◌≤◌, length, get_or}
use Rattle.decimal.specs.Number.{digits}
use Rattle.decimal.specs.Lines.{tab, closed}
use Rattle.decimal.specs.Room.{Put}
use Rattle.table.specs.declared.Mode.{Mode}
use Rattle.table.specs.declared.Mode.TheVariants.{N, D1, D2}
use Rattle.table.specs.Rows.{mode_value}
use Rattle.morning.specs.Numbers.{ServerNumbers, TaskNumbers}
use Rattle.morning.specs.Page.{server_line, task_line, mode_line, row_lines, page_lines}
use Rattle.report.specs.declared.count.Counts.{Counts}

-- the numbers that stand in the columns
abbrev pub server_in : Counts → ℕ → ServerNumbers
server_in c i = record { charged = get_or c.charged i 0; empty = get_or c.empty i 0; longest = get_or c.longest i 0 }

abbrev pub task_in : Counts → List ℕ → ℕ → TaskNumbers
task_in c waiting k =
    record {
      finished = get_or c.finished k 0;
      cut = get_or c.cut k 0;
      discarded = get_or c.discarded k 0;
      waiting = get_or waiting k 0;
    }

abbrev pub mode_in : List ℕ → Mode → ℕ
mode_in xs m = get_or xs (mode_value m) 0

abbrev pub server_line_in : Counts → ℕ → List ℕ
server_line_in c i = server_line i (server_in c i)

abbrev pub task_line_in : Counts → List ℕ → ℕ → List ℕ
task_line_in c waiting k = task_line k (task_in c waiting k)

-- the lines of the first n servers, of the first n tasks, of the modes
abbrev pub server_lines_in : ℕ → Counts → List (List ℕ)
server_lines_in n c = row_lines (server_line_in c) n

abbrev pub task_lines_in : ℕ → Counts → List ℕ → List (List ℕ)
task_lines_in n c waiting = row_lines (task_line_in c waiting) n

abbrev pub mode_lines_in : List ℕ → List (List ℕ)
mode_lines_in xs = mode_line N (mode_in xs N) ∷ mode_line D1 (mode_in xs D1) ∷ mode_line D2 (mode_in xs D2) ∷ []

-- all of them
abbrev pub page_in : ℕ → ℕ → Counts → List ℕ → List (List ℕ)
page_in nservers ntasks c waiting = page_lines nservers ntasks (server_in c) (task_in c waiting) (mode_in c.modes)

-- a tab and a number, of at most 20 digits
pub record FieldPut (x : ℕ) (room : List ℕ) (at : ℕ) (left : List ℕ) (next : ℕ) : Type 0 where
  pub put : Put (tab ∷ digits x) room at left next
  pub short : length (digits x) ≤ 20

-- lines of at most six fields, of 20 bytes each: with what parts and closes them 127 bytes hold one
pub record LinesPut (ls : List (List ℕ)) (room : List ℕ) (at : ℕ) (left : List ℕ) (next : ℕ) : Type 0 where
  pub put : Put (closed ls) room at left next
  pub short : length (closed ls) ≤ length ls * 127

-- so many bytes hold every page: 32 servers, 64 tasks and 3 modes
abbrev pub longest_page : ℕ
longest_page = 99 * 127
