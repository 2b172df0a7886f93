-- `reader::frame::line_standing` meets its contract: by its place, then by the line. Assumes
-- nothing.
use mathlib.Core.Path.{◌≡◌, sym}
use mathlib.Core.Bool.{Bool}
use Prim.Native.Nat.{ℕ}
use Rattle.text.specs.declared.Word.{Word}
use Rattle.frametable.specs.declared.FrameLine.{FrameLine}
use Rattle.frametable.specs.Line.{frame_word_of}
use Rattle.frametable.specs.Text.{frame_placed}
use Rattle.reader.proofs.FrameText.{frame_task_below}
use Rattle.reader.proofs.frame.line_standing.Goals as goal

-- what was found of the place, whatever the line is
judged : (n : ℕ) (l m : FrameLine) {word : Word} {r b : Bool} → l ≡ m → word ≡ frame_word_of l →
    r ≡ frame_placed n word → r ≡ b → frame_placed n (frame_word_of m) ≡ b
judged n l m told w p e = rw (sym told, sym w, sym p) e

-- so the `tick` line stands above a `task` line
pub task_standing-requires : goal.task_standing-requires
task_standing-requires c =
    let a = c.args in
    c.requires (frame_task_below a.n
    (judged a.n a.l _ c.in-OfTask.is c.word_of.ensures c.is_placed.ensures c.if-not-is_placed.false))
