-- The piece and the room keep their lengths. Assumes nothing.
use Rattle.std.proofs.Common.{◌≡◌, length}
use Rattle.files.proofs.night.answer_all.Given as goal

abbrev pub invariant-loop : goal.invariant-loop
invariant-loop g l = (length l.piece ≡ 4096) × (length l.room ≡ 573440)
