-- 02, No. 6; 01, One night in full, as the program goes through it: what is said of any box (crate lines,
-- specs/Pieces.antt, and crate files, specs/Turns.antt), said of a frame
-- box.
use Rattle.std.specs.Prelude.{List, ℕ}
use Rattle.framerun.specs.declared.FrameRun.{FrameRun}
use Rattle.framerun.specs.Events.{frame_box}
use Rattle.lines.specs.declared.Held.{Held}
use Rattle.lines.specs.Pieces.{Stand, piece_in, written_in}
use Rattle.files.specs.declared.How.{How}
use Rattle.files.specs.Turns.{turn_in}

-- some bytes of the file
abbrev pub piece_of : FrameRun → Held → List ℕ → Stand FrameRun
piece_of r h bytes = piece_in frame_box r h bytes

-- how a read ended, and the bytes that it left
abbrev pub turn_of : FrameRun → Held → How → List ℕ → Stand FrameRun
turn_of r h how bytes = turn_in frame_box r h how bytes

-- what is written of a file that is read in these pieces
abbrev pub written : FrameRun → Held → List (List ℕ) → List ℕ
written r h ps = written_in frame_box r h ps
