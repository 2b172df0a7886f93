-- `report::count_piece` meets its contract: before each batch, the bytes before it are counted. Assumes
-- nothing.
use Prim.Native.Nat.{◌-◌}
use lib.ListN.{length}
use Rattle.report.proofs.Pieces.{Going}
use Rattle.report.proofs.count_piece.Given as goal

abbrev pub invariant-loop-at : goal.invariant-loop-at
invariant-loop-at l =
    Going (record { run = l.initial.run; held = l.initial.held; counts = l.initial.counts }) l.bytes l.at
    (record { run = l.run; held = l.held; counts = l.counts }) l.values l.told l.found

abbrev pub decreases-loop-at : goal.decreases-loop-at
decreases-loop-at l =
    length l.bytes - l.at
