-- 02, No. 6: what a line of a frame box's text says, in microseconds, as it stands. "The text is the
-- tick line and 1 to 64 task lines of partition (0 measuring, 1 alarm sending, 2 panel), priority
-- and one limit". Here is judged only whether a line has the form of a `tick` or of a `task` line;
-- form, fields and numbers are those of document 01 (crate text, specs/Line.antt).
use Rattle.std.specs.Prelude.{List, [], ◌∷◌, ℕ, None, Option, Some}
use Rattle.decimal.specs.Number.{worth}
use Rattle.decimal.specs.Lines.{tab, split}
use Rattle.text.specs.declared.Word.{Word}
use Rattle.text.specs.declared.Word.TheVariants.{ATick, AServer, ATask, Unknown}
use Rattle.text.specs.Line.{a_number, Form, tick_form, field_at, micros_at, leading, formed_or}
use Rattle.frametable.specs.declared.FrameTaskLine.{FrameTaskLine}
use Rattle.frametable.specs.declared.FrameLine.{FrameLine}
use Rattle.frametable.specs.declared.FrameLine.TheVariants.{OfTick, OfTask, Malformed}

-- "task lines of partition (0 measuring, 1 alarm sending, 2 panel), priority and one limit"
unfoldable pub frame_task_form : Form
frame_task_form = record { fields = a_number ∷ a_number ∷ a_number ∷ []; least = 3 }

abbrev pub frame_task_said : List (List ℕ) → FrameTaskLine
frame_task_said fs =
    record { partition = worth (field_at fs 1); priority = worth (field_at fs 2); limit = micros_at fs 3 }

-- the leading word of a line, and the field at which it is malformed, if it is
abbrev pub frame_word_of : FrameLine → Word
frame_word_of (OfTick t) = ATick
frame_word_of (OfTask k) = ATask
frame_word_of (Malformed word field) = word

abbrev pub frame_malformed_at : FrameLine → Option ℕ
frame_malformed_at (OfTick t) = None
frame_malformed_at (OfTask k) = None
frame_malformed_at (Malformed word field) = Some field

-- The leading word tells which form the fields after it must have. "An older cabinet has no
-- servers": a `server` line, like one of no known word, is told as the line itself.
unfoldable pub frame_line_by : Word → List (List ℕ) → FrameLine
frame_line_by ATick fs = formed_or (Malformed ATick) tick_form fs (OfTick (micros_at fs 1))
frame_line_by AServer fs = Malformed AServer 0
frame_line_by ATask fs = formed_or (Malformed ATask) frame_task_form fs (OfTask (frame_task_said fs))
frame_line_by Unknown fs = Malformed Unknown 0

unfoldable pub frame_line_of : List (List ℕ) → FrameLine
frame_line_of [] = Malformed Unknown 0
frame_line_of (w ∷ fs) = frame_line_by (leading w) fs

-- "lines parted by tabs"
unfoldable pub read_frame_line : List ℕ → FrameLine
read_frame_line l = frame_line_of (split tab l)
