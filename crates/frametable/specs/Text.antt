-- 02, No. 6: the text of a frame box's table, and what the reader answers to it. "The text is the
-- tick line and 1 to 64 task lines of partition (0 measuring, 1 alarm sending, 2 panel), priority
-- and one limit; a greater partition is 2." All else is document 01's reading: length first, then
-- line by line (crate text, specs/TableText.antt), with No. 2's fields, and 5 at the end.
use Rattle.std.specs.Prelude.{◌≡◌, Bool, true, false, not, List, [], ◌∷◌, ◌++◌, map, ℕ, ◌≤◌, ltb, eqb, length, get_or, Ok}
use Rattle.laws.specs.Choice.{unless◌say◌else◌}
use Rattle.laws.specs.Search.{first_failed}
use Rattle.table.specs.declared.Refusal.TheVariants.{Malformed, OutOfBounds}
use Rattle.decimal.specs.Lines.{line_feed, split}
use Rattle.table.specs.Rules.{tick_keeps, differ}
use Rattle.text.specs.declared.Word.{Word}
use Rattle.text.specs.declared.Word.TheVariants.{ATick, AServer, ATask, Unknown}
use Rattle.text.specs.Standing.{is_nil, rounded_up, anything, tell◌at◌or◌}
use Rattle.text.specs.TableText.{ReadOf, taken, refused_beside, pair_told, TableText, read_lines, read_text, LinesKeep, rows_grown, Read}
use Rattle.frametable.specs.declared.FrameTask.{FrameTask}
use Rattle.frametable.specs.declared.FrameTaskLine.{FrameTaskLine}
use Rattle.frametable.specs.declared.FrameLine.{FrameLine}
use Rattle.frametable.specs.declared.FrameLine.TheVariants.{OfTick, OfTask, Malformed as MalformedLine}
use Rattle.frametable.specs.Rows.{FrameRows, no_frame_rows, no_frame_task, frame_table_of}
use Rattle.frametable.specs.Rules.{frame_task_keeps, equal_frame_tasks}
use Rattle.frametable.specs.Line.{frame_word_of, frame_malformed_at, read_frame_line}
use Rattle.table.specs.Refusals.{breaks, Standing}
use Rattle.frametable.specs.declared.FrameTable.{FrameTable}

-- A task's row, in a table whose tick is t microseconds: document 01's "rounded up to a tick".
abbrev pub frame_task_of : ℕ → FrameTaskLine → FrameTask
frame_task_of t k = record { partition = k.partition; priority = k.priority; limit = rounded_up t k.limit }

-- 1, "malformed, missing or misplaced line, or unknown word": where a line may stand by its leading
-- word, n being its number. "the tick line and 1 to 64 task lines"
unfoldable pub frame_placed : ℕ → Word → Bool
frame_placed n ATick = eqb n 1
frame_placed n AServer = false
frame_placed n ATask = ltb 1 n
frame_placed n Unknown = false

-- 2, "a number or row count out of bounds": a 65th task is told as the line itself, and then come
-- its fields, "partition .., priority and one limit", each held to the rule of a row. The place of
-- a test is the field that it is about.
unfoldable pub frame_task_bounds : ℕ → ℕ → FrameTaskLine → List Bool
frame_task_bounds rows t k = ltb rows 64 ∷ frame_task_keeps (frame_task_of t k)

unfoldable pub frame_bounds : FrameRows → FrameLine → List Bool
frame_bounds a (OfTick t) = anything ∷ tick_keeps t.0 ∷ []
frame_bounds a (OfTask k) = frame_task_bounds (length a.tasks) a.tick.0 k
frame_bounds a (MalformedLine word field) = []

-- All of 1, then all of 2. A line that is misplaced has the wrong leading word for its place: "told
-- first, as 0". No time has to be whole ticks, and there are no server rows.
unfoldable pub frame_standing : ℕ → FrameRows → FrameLine → Standing
frame_standing n a l =
    unless frame_placed n (frame_word_of l) say breaks Malformed 0
    else tell Malformed at frame_malformed_at l
    or tell OutOfBounds at first_failed (frame_bounds a l)
    or (Ok tt)

-- the rows with that of one more line, which keeps the rules there
unfoldable pub frame_grown : FrameRows → FrameLine → FrameRows
frame_grown a (OfTick t) = record { tick = t; tasks = a.tasks }
frame_grown a (OfTask k) = record { tick = a.tick; tasks = a.tasks ++ (frame_task_of a.tick.0 k ∷ []) }
frame_grown a (MalformedLine word field) = a

-- The text ends before line n. "Empty text is 1 at line 1, a missing line 1 at the line after the
-- last": the last line is a `task` line. Then 5, "equal priorities", with both lines: tasks stand
-- below the `tick` line.
unfoldable pub frame_ended : ℕ → FrameRows → ReadOf FrameRows
frame_ended n a =
    unless not (is_nil a.tasks) say refused_beside no_frame_rows Malformed n 0
    else pair_told no_frame_rows 2 (equal_frame_tasks a.tasks) (taken a)

-- A frame box's table, as its text is read.
abbrev pub frame_text : TableText FrameRows FrameLine
frame_text =
    record {
      none = no_frame_rows;
      says = read_frame_line;
      stands = frame_standing;
      grows = frame_grown;
      ends = frame_ended;
    }

unfoldable pub frame_read : List ℕ → ReadOf FrameRows
unfolding read_text read_lines
frame_read = read_text frame_text

-- The answer with the table that the rows make: of a refused text that is no_frame_table. The reader
-- hands it back as `handed` of crate text says: the table, or why there is none.
unfoldable pub frame_shown : ReadOf FrameRows → Read FrameTable
frame_shown r = record { answer = r.answer; table = frame_table_of r.rows }

-- Which texts are allowed, and the rows that they say. "The text is at most 16,384 bytes"; it is
-- lines, "each closed by a line feed, the last too", so that nothing stands after the last line
-- feed; each line keeps the rules where it stands; there is a task; and task priorities "differ
-- from one another".
pub record FrameAllowed (text : List ℕ) (a : FrameRows) : Type 0 where
  pub short : length text ≤ 16384
  pub lines : List (List ℕ)
  pub closes : split line_feed text ≡ lines ++ ([] ∷ [])
  pub kept : LinesKeep frame_text 1 no_frame_rows (map read_frame_line lines)
  pub rows : rows_grown frame_text no_frame_rows (map read_frame_line lines) ≡ a
  pub task : 1 ≤ length a.tasks
  pub differing : differ (length a.tasks) (λ k. (get_or a.tasks k no_frame_task).priority) ≡ true
