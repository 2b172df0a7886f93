-- `queues::jobs_waiting` meets its contract: the sum of the rows passed; rows past the array add
-- nothing. Assumes nothing.
use mathlib.Core.Path.{◌≡◌}
use Prim.Native.Nat.{◌*◌, ◌≤◌}
use lib.ListN.{get_or}
use Rattle.laws.specs.Rows.{sum_below}
use Rattle.queues.proofs.jobs_waiting.Given as goal

abbrev pub invariant-loop-w : goal.invariant-loop-w
invariant-loop-w l =
    (l.count ≤ l.w-index * 255) × (l.count ≡ sum_below l.w-index (λ j. get_or l.fn.waiting j 0))
