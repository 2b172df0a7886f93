-- Only contracts of inner functions cite this file; a buyer need not read it. It says what is
-- answered to a line of a frame box's text, and what the inner functions ask of the table that is
-- being read.
use Rattle.std.specs.Prelude.{◌≡◌, true, List, ℕ, ◌≤◌, ◌<◌, Ok}
use Rattle.laws.specs.Choice.{unless◌say◌else◌}
use Rattle.laws.specs.Search.{first_failed}
use Rattle.decimal.specs.Inner.Fields.{first_line, fields_from}
use Rattle.table.specs.declared.Refusal.TheVariants.{Malformed, OutOfBounds}
use Rattle.table.specs.Rules.{tick_keeps}
use Rattle.text.specs.declared.Word.{Word}
use Rattle.text.specs.Standing.{tell◌at◌or◌}
use Rattle.frametable.specs.declared.FrameTaskLine.{FrameTaskLine}
use Rattle.frametable.specs.declared.FrameLine.{FrameLine}
use Rattle.frametable.specs.declared.FrameLine.TheVariants.{OfTick, OfTask, Malformed as NoForm}
use Rattle.frametable.specs.declared.FrameTable.{FrameTable}
use Rattle.frametable.specs.Rows.{frame_rows_of, frame_table_of}
use Rattle.frametable.specs.Line.{frame_word_of, frame_line_by, read_frame_line}
use Rattle.frametable.specs.Text.{frame_placed, frame_task_bounds}
use Rattle.reader.specs.declared.forms.LineRead.{LineRead}
use Rattle.reader.specs.Inner.{tick_standing}
use Rattle.reader.specs.Inner.Lines.{line_read}
use Rattle.table.specs.Refusals.{breaks, Standing}

-- the fields from a place on, behind a leading word
abbrev pub frame_behind : Word → List ℕ → ℕ → LineRead FrameLine
frame_behind word text from = line_read text from (frame_line_by word (fields_from text from))

-- the line at the front of a text
abbrev pub first_frame_read : List ℕ → LineRead FrameLine
first_frame_read text = line_read text 0 (read_frame_line (first_line text))

-- The table holds the rows above line n and nothing else. All lines but the first stand below a
-- `tick` line.
pub record FrameAbove (n : ℕ) (t : FrameTable) : Type 0 where
  pub whole : t ≡ frame_table_of (frame_rows_of t)
  pub few : t.ntasks ≤ 64
  pub below : 1 < n → tick_keeps t.tick.0 ≡ true

-- What `frame_standing` says, by what it asks of the rows above: the tick and how many there are.
abbrev pub frame_task_standing : ℕ → ℕ → FrameTaskLine → Standing
frame_task_standing tick tasks k = tell OutOfBounds at first_failed (frame_task_bounds tasks tick k) or (Ok tt)

abbrev pub frame_in_place : ℕ → ℕ → FrameLine → Standing
frame_in_place tick tasks (OfTick u) = tick_standing u
frame_in_place tick tasks (OfTask k) = frame_task_standing tick tasks k
frame_in_place tick tasks (NoForm word field) = breaks Malformed field

abbrev pub frame_standing_by : ℕ → ℕ → ℕ → FrameLine → Standing
frame_standing_by n tick tasks l =
    unless frame_placed n (frame_word_of l) say breaks Malformed 0
    else frame_in_place tick tasks l
