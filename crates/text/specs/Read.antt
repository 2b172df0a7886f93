-- 01, Numbers for no: what the reader answers. "Reading: length first; then line by line 1, 2, 3,
-- 4; then 5 for the first pair of server rows with equal priority, smaller row first (pairs ordered
-- by it, then by the larger row), then the same for tasks." 02, No. 2: "4 goes; 41 to 45 stand in
-- its place"; "with 1, 2, 3 and all of these give the field".
use Rattle.std.specs.Prelude.{not, List, [], ◌∷◌, ℕ, ◌+◌, length, Option, Err, Ok}
use Rattle.laws.specs.Choice.{unless◌say◌else◌}
use Rattle.table.specs.declared.Refusal.{Refusal}
use Rattle.table.specs.declared.Refusal.TheVariants.{Malformed, EqualPriorities}
use Rattle.table.specs.Refusals.{number_of, Standing}
use Rattle.table.specs.Pairs.{equal_servers, equal_tasks}
use Rattle.table.specs.Rows.{Rows, no_rows, table_of}
use Rattle.text.specs.declared.Line.{Line}
use Rattle.text.specs.Line.{read_line}
use Rattle.text.specs.Standing.{is_nil, standing, grown}
use Rattle.text.specs.TableText.{ReadOf, TableText, refused_beside, equal_beside, pair_told, line_told, Reading, Read}
use Rattle.text.specs.TableText.{read_lines, read_text}
pub use Rattle.text.specs.TableText.{taken}
use Rattle.text.specs.declared.ReadError.TheVariants.{Equal, Refused}
use Rattle.table.specs.declared.Table.{Table}

-- The paper's number of each answer, 0 where the text is taken, and what comes back with it: the
-- line and the field, "both lines".
abbrev pub reading_number : Reading → ℕ
reading_number (Ok tt) = 0
reading_number (Err (Refused why line field)) = number_of why
reading_number (Err (Equal first second)) = number_of EqualPriorities

abbrev pub reading_values : Reading → List ℕ
reading_values (Ok tt) = []
reading_values (Err (Refused why line field)) = line ∷ field ∷ []
reading_values (Err (Equal first second)) = first ∷ second ∷ []

-- The answer, and the rows of a text that is taken; beside a refusal stand no rows.
abbrev pub ReadRows : Type 0
ReadRows = ReadOf Rows

abbrev pub refused : Refusal → ℕ → ℕ → ReadRows
refused = refused_beside no_rows

abbrev pub equal : ℕ → ℕ → ReadRows
equal = equal_beside no_rows

-- 5, "equal priorities", "both lines": row 0 stands on line `top`
abbrev pub pair_said : ℕ → Option (ℕ × ℕ) → ReadRows → ReadRows
pair_said = pair_told no_rows

-- Servers stand below the `tick` line, tasks below the servers. "then the same for tasks"
unfoldable pub compared : Rows → ReadRows
compared a =
    pair_said 2 (equal_servers a.servers)
    (pair_said (2 + length a.servers) (equal_tasks a.tasks) (taken a))

-- The text ends before line n. "Empty text is 1 at line 1, a missing line 1 at the line after the
-- last": the last line is a `task` line. No field of it is concerned: "0 for the line itself".
unfoldable pub ended : ℕ → Rows → ReadRows
ended n a = unless not (is_nil a.tasks) say refused Malformed n 0 else compared a

-- Document 01's table, as its text is read.
abbrev pub table_text : TableText Rows Line
table_text = record { none = no_rows; says = read_line; stands = standing; grows = grown; ends = ended }

abbrev pub line_said : ℕ → Standing → ReadRows → ReadRows
line_said = line_told no_rows

unfoldable pub read : List ℕ → ReadRows
unfolding read_text read_lines
read = read_text table_text

-- The answer with the table that the rows make: of a refused text that is no_table of crate table. The
-- reader hands it back as `handed` says: the table, or why there is none.
unfoldable pub shown : ReadRows → Read Table
shown r = record { answer = r.answer; table = table_of r.rows }
