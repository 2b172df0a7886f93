-- `scheduler::choose::find_able` meets its contract: the walk keeps the highest able server among
-- the servers passed. Assumes nothing.
use mathlib.Core.Path.{◌≡◌}
use Prim.Native.Nat.{ℕ, ◌≤◌, ◌<◌}
use lib.Dec.{ltb}
use lib.ListN.{get_or}
use Rattle.table.specs.Rows.{priority_at}
use Rattle.table.specs.declared.Table.{Table}
use Rattle.run.specs.Tick.{able}
use Rattle.run.specs.State.{waits}
use Rattle.scheduler.specs.Inner.Columns.{ServersOn}
use Rattle.laws.proofs.Highest.{Top}
use Rattle.scheduler.proofs.choose.find_able.Given as goal

abbrev pub invariant-loop-i : goal.invariant-loop-i
invariant-loop-i l =
    (t : Table) → ServersOn t l.sheets → ((j : ℕ) → j < t.nservers → 1 ≤ priority_at t j) →
    ((j : ℕ) → j < t.nservers → ltb 0 (get_or l.found j 0) ≡ waits t l.state j) →
    Top l.i (able t l.state) (priority_at t) l.high l.best
