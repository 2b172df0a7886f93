-- `laws::first_failed` meets its contract: each test passed holds, so the first that does not is
-- told, and past the last there is none. Assumes nothing.
use native.Mathlib.Omega.{arith}
use Rattle.laws.proofs.Search.{fails_first, fails_nowhere}
use Rattle.laws.proofs.first_failed.Goals as goal

pub returns-then-not-holds : goal.returns-then-not-holds
returns-then-not-holds c =
    fails_first c.args.b.now c.loop-i.i (omega arith) c.loop-i.invariant c.if-not-holds.true

pub returns : goal.returns
returns c = fails_nowhere c.args.b.now (λ k h. c.loop-i.invariant k (omega arith))
