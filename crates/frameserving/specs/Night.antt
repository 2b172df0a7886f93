-- 02, No. 6: a frame box's table file and an event file, and the whole output, as document 01's night
-- is (crate lines, specs/Night.antt): "Tasks, releases, end marks and queues stay as in 01"; "answers
-- show the partition as server".
use Rattle.std.specs.Prelude.{List, ℕ}
use Rattle.decimal.specs.Lines.{closed}
use Rattle.frametable.specs.Text.{frame_read, frame_shown}
use Rattle.framerun.specs.Release.{fresh_frame}
use Rattle.framerun.specs.Events.{frame_box}
use Rattle.lines.specs.EventLine.{event_lines}
use Rattle.lines.specs.Night.{night_lines}

unfoldable pub frame_night : List ℕ → List ℕ → List ℕ
frame_night table events =
    let d = frame_shown (frame_read table) in
    closed (night_lines frame_box d.answer (fresh_frame d.table) (event_lines events))
