-- `report::count::count_ticks` meets its contract: after each tick the ticks so far are counted, and
-- the others are as they were handed in. Assumes nothing.
use mathlib.Core.Path.{◌≡◌}
use mathlib.Core.List.{List, ◌++◌}
use Prim.Native.Nat.{◌*◌, ◌-◌, ◌≤◌}
use lib.ListN.{length, drop}
use Rattle.table.specs.declared.Table.{Table}
use Rattle.run.specs.Found.{TakenTick}
use Rattle.report.specs.Inner.Count.{TicksHanded}
use Rattle.report.proofs.Inner.Count.{TicksLeft}
use Rattle.report.proofs.count.count_ticks.Given as goal

abbrev pub invariant-loop-i : goal.invariant-loop-i
invariant-loop-i l =
    (l.i ≤ l.n) × (9 * l.n ≤ length l.told) × (96 * l.n ≤ length l.initial.found) × (length l.found ≡ length l.initial.found)
    × ((t : Table) (ms new : List TakenTick) →
    TicksHanded t ms new l.nservers l.ntasks l.n l.told l.initial.found l.initial.counts →
    TicksLeft t (ms ++ new) l.nservers l.ntasks (l.n - l.i) (drop (9 * l.i) l.told) (drop (96 * l.i) l.found) l.counts)
