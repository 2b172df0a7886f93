-- `queues::jobs_waiting` meets its contract: the sum of the rows passed; rows past the array add
-- nothing. Assumes nothing.
use mathlib.Core.Path.{refl, ap, sym, ◌∙◌}
use Prim.Native.Nat.{◌+◌}
use native.Mathlib.Omega.{arith}
use lib.ListN.{get_or, length-take}
use lib.Seq.{get_or-take}
use Rattle.laws.specs.Rows.{sum_below}
use Rattle.laws.proofs.Rows.{sum_next}
use Rattle.queues.proofs.Inner.{sum_in_use}
use Rattle.queues.proofs.jobs_waiting.Goals as goal

pub loop-w-init : goal.loop-w-init
unfolding sum_below
loop-w-init c = (omega arith, refl)

pub loop-w-preserved : goal.loop-w-preserved
loop-w-preserved c =
    let l = c.loop-w in
    let w = c.args.waiting in
    let m = c.min.result in (
      omega (arith, c.job_count-count.ensures.1),
      ap (λ x. l.count + x)
          (c.job_count-count.ensures.0
          ∙ get_or-take m w l.w-index 0 (omega (arith, length-take m w, c.loop-w-test.true)))
          ∙ ap (λ x. x + get_or w l.w-index 0) l.invariant.1
          ∙ sym (sum_next (λ j. get_or w j 0) l.w-index),
    )

pub returns : goal.returns
returns c =
    let a = c.args in
    let l = c.loop-w in
    l.invariant.1
    ∙ sum_in_use a.waiting a.n l.w-index (omega arith)
    (omega (arith, length-take c.min.result a.waiting, c.min.ensures))
