-- `scheduler::settle::some_waits` meets its contract: no task passed has a waiting job. Assumes
-- nothing.
use mathlib.Core.Path.{◌≡◌}
use mathlib.Core.Bool.{false}
use Prim.Native.Nat.{ℕ, ◌<◌}
use Rattle.scheduler.specs.Inner.Steps.{waits_at}
use Rattle.scheduler.proofs.settle.some_waits.Given as goal

abbrev pub invariant-loop-w : goal.invariant-loop-w
invariant-loop-w l = (j : ℕ) → j < l.w-index → waits_at l.waiting j ≡ false
