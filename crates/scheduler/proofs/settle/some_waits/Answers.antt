-- `scheduler::settle::some_waits` meets its contract: no task passed has a waiting job. Assumes
-- nothing.
use mathlib.Core.Path.{sym}
use Prim.Native.Nat.{◌<◌}
use native.Mathlib.Omega.{arith}
use lib.ListN.{length-take}
use lib.Seq.{get_or-take}
use borrow.Author.Tests.{lt-ltb}
use Rattle.laws.proofs.Rows.{any_at, none_build}
use Rattle.scheduler.specs.Inner.Steps.{waits_at}
use Rattle.scheduler.proofs.settle.some_waits.Goals as goal

pub returns-then-w-gt0 : goal.returns-then-w-gt0
returns-then-w-gt0 c =
    let n = c.args.n in
    let w = c.args.waiting.now in
    let k = c.loop-w.w-index in
    let h : k < n = omega (arith, length-take n w) in
    sym (any_at (waits_at w) n k h (lt-ltb _ _ (rw (get_or-take n w k 0 h) at c.if-w-gt0.true)))

pub returns : goal.returns
returns c =
    sym
    (none_build _ c.args.n (λ j h. c.loop-w.invariant j (omega (arith, length-take c.args.n c.args.waiting.now))))
