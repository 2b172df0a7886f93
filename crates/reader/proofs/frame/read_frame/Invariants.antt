-- `reader::frame::read_frame` meets its contract: t holds the rows of the lines before line n, which
-- begins at `at`, so what the text says is what is said from there on. Assumes nothing.
use mathlib.Core.Path.{◌≡◌}
use Prim.Native.Nat.{◌+◌, ◌-◌, ◌≤◌}
use lib.ListN.{length, drop}
use Rattle.decimal.specs.Lines.{line_feed, split}
use Rattle.text.specs.TableText.{read_lines}
use Rattle.frametable.specs.Rows.{no_frame_rows, frame_rows_of}
use Rattle.frametable.specs.Text.{frame_text}
use Rattle.reader.specs.Inner.Frame.{FrameAbove}
use Rattle.reader.proofs.frame.read_frame.Given as goal

abbrev pub invariant-loop-at : goal.invariant-loop-at
invariant-loop-at l =
    (l.at ≤ length l.text)
    × (l.n ≤ l.at + 1)
    × FrameAbove l.n l.t
    × (read_lines frame_text 1 no_frame_rows (split line_feed l.text) ≡
    read_lines frame_text l.n (frame_rows_of l.t) (split line_feed (drop l.at l.text)))

abbrev pub decreases-loop-at : goal.decreases-loop-at
decreases-loop-at l = length l.text - l.at
