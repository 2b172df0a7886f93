-- `night::answer_all` is safe, and answers by how its last read ended. Assumes nothing.
use Rattle.std.proofs.Common.{ℕ}
use Rattle.std.proofs.Math.ListN.{length-replicate}
use Rattle.files.proofs.night.answer_all.Goals as goal

pub loop-init : goal.loop-init
loop-init g c = (length-replicate {A = ℕ} 4096 0, length-replicate {A = ℕ} 573440 0)
