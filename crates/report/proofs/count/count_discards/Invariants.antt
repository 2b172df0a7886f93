-- `report::count::count_discards` meets its contract: after each task its discards are counted.
-- Assumes nothing.
use mathlib.Core.Path.{◌≡◌}
use Prim.Native.Nat.{◌≤◌}
use lib.ListN.{length}
use Rattle.report.proofs.Inner.Count.{DiscardsGoing}
use Rattle.report.proofs.count.count_discards.Given as goal

abbrev pub invariant-loop-k : goal.invariant-loop-k
invariant-loop-k l =
    (l.k ≤ l.ntasks) × (l.ntasks ≤ 64) × (length l.found ≡ 96) × DiscardsGoing l.k l.found l.initial.counts l.counts
