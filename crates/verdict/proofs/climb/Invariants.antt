-- `verdict::climb` meets its contract. The loop's invariant: no number from 1 on and below r meets
-- the inequality; the climbing law keeps it. The measure is what is left of the period. Assumes
-- nothing.
use Prim.Native.Nat.{suc, ◌-◌, ◌≤◌}
use Rattle.laws.proofs.Climb.{NonePasses}
use Rattle.verdict.specs.Inner.{meets_in}
use Rattle.verdict.proofs.climb.Given as goal

abbrev pub invariant-loop-r : goal.invariant-loop-r
invariant-loop-r l = (1 ≤ l.r) × NonePasses (meets_in l.higher l.capacity) 1 l.r

abbrev pub decreases-loop-r : goal.decreases-loop-r
decreases-loop-r l = suc l.period - l.r
