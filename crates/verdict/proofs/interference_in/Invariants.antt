-- `verdict::interference_in` meets its contract. The loop's invariant: the sum is that of the servers
-- passed, so it is at most 3,000,000 for each of them. Assumes nothing.
use mathlib.Core.Path.{◌≡◌}
use lib.ListN.{take}
use Rattle.verdict.specs.Inner.{interference_in}
use Rattle.verdict.proofs.interference_in.Given as goal

abbrev pub invariant-loop-d : goal.invariant-loop-d
invariant-loop-d l = l.sum ≡ interference_in (take l.d-index l.higher) l.r
