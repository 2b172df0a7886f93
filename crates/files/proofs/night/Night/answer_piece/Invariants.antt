-- Batch by batch, the bytes before stand answered (crate lines, proofs/Pieces.antt). Assumes nothing.
use Rattle.std.proofs.Common.{length, ◌-◌, ◌≤◌}
use Rattle.lines.proofs.Pieces.{Going}
use Rattle.files.proofs.night.Night.answer_piece.Given as goal

abbrev pub invariant-loop-at : goal.invariant-loop-at
invariant-loop-at g l =
    Going g.B.NightBox.the_box l.initial.run l.initial.held l.bytes (length l.initial.room) l.at l.put l.room l.run l.held
    × (length l.bytes ≤ 4096)

abbrev pub decreases-loop-at : goal.decreases-loop-at
decreases-loop-at g l = length l.bytes - l.at
