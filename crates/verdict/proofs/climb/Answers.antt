-- `verdict::climb` meets its contract. The loop's invariant: no number from 1 on and below r meets
-- the inequality; the climbing law keeps it. The measure is what is left of the period. Assumes
-- nothing.
use native.Mathlib.Omega.{arith}
use Rattle.verdict.proofs.Delayers.{in_le}
use Rattle.verdict.proofs.Least.{next_tried, found_least, found_none}
use Rattle.verdict.proofs.climb.Goals as goal

pub overflow_add-next : goal.overflow_add-next
overflow_add-next c =
    record {
      fits =
          omega (
            arith,
            c.interference_in.ensures,
            in_le c.args.higher.now c.loop-r.r (omega arith),
          );
    }

pub returns-then-next-r : goal.returns-then-next-r
returns-then-next-r c =
    let a = c.args in
    let l = c.loop-r in
    found_least a.higher.now a.capacity l.r c.interference_in.result a.period c.interference_in.ensures
    l.invariant.0
    (omega arith)
    (omega arith)
    l.invariant.1

pub loop-r-preserved : goal.loop-r-preserved
loop-r-preserved c =
    let l = c.loop-r in (
      omega arith,
      next_tried c.args.higher.now c.args.capacity l.r c.interference_in.result
          c.interference_in.ensures
          l.invariant.1,
    )

pub returns : goal.returns
returns c =
    let l = c.loop-r in
    found_none c.args.higher.now c.args.capacity l.r c.args.period (omega arith) l.invariant.1
