-- 01, Tables: which texts the page allows, and the rows that they say. The reader takes exactly
-- these (taken_exactly in proofs/RoundTrip.antt).
use Rattle.std.specs.Prelude.{◌≡◌, true, List, [], ◌∷◌, ◌++◌, map, ℕ, ◌≤◌, length, get_or}
use Rattle.decimal.specs.Lines.{line_feed, split}
use Rattle.table.specs.Rows.{Rows, no_rows, no_server, no_task}
use Rattle.table.specs.Rules.{differ}
use Rattle.text.specs.declared.Line.{Line}
use Rattle.text.specs.Line.{read_line}
use Rattle.text.specs.TableText.{LinesKeep, rows_grown}
use Rattle.text.specs.Read.{table_text}

-- each line keeps the rules where it stands: the first as line n, below the rows a
abbrev pub KeptFrom : ℕ → Rows → List Line → Type 0
KeptFrom = LinesKeep table_text

-- the rows a with those of the lines
abbrev pub grown_by : Rows → List Line → Rows
grown_by = rows_grown table_text

-- "The text is at most 16,384 bytes"; it is lines, "each closed by a line feed, the last too", so
-- that nothing stands after the last line feed; each line keeps the rules where it stands; there is
-- a task; and "Server priorities differ from one another; so do task priorities."
pub record Allowed (text : List ℕ) (a : Rows) : Type 0 where
  pub short : length text ≤ 16384
  pub lines : List (List ℕ)
  pub closes : split line_feed text ≡ lines ++ ([] ∷ [])
  pub kept : KeptFrom 1 no_rows (map read_line lines)
  pub rows : grown_by no_rows (map read_line lines) ≡ a
  pub task : 1 ≤ length a.tasks
  pub servers_differ : differ (length a.servers) (λ i. (get_or a.servers i no_server).priority) ≡ true
  pub tasks_differ : differ (length a.tasks) (λ k. (get_or a.tasks k no_task).priority) ≡ true
