-- `cutter::cut_first` meets its contract: what is cut in all is what stands, and what is cut
-- from the rest (Cutting.antt). Assumes nothing.
use native.Mathlib.Omega.{arith}
use lib.Arith.{lt_of_le-ne}
use Rattle.lines.proofs.Cutting.{going_line, going_rest, going_full}
use Rattle.cutter.proofs.cut_first.Goals as goal

pub returns-then-e-input : goal.returns-then-e-input
returns-then-e-input c =
    going_rest _ _ _ _ _ _ _ c.loop-many.invariant _ _ c.line_end-e.ensures.value (omega (arith, c.if-e-input.true))
    c.line_end-e.ensures.upper_bound c.loop-many-test.true c.hold.ensures

pub loop-many-preserved : goal.loop-many-preserved
loop-many-preserved c =
    going_line _ _ _ _ _ _ _ c.loop-many.invariant _ _ _ c.line_end-e.ensures.value
    (lt_of_le-ne c.line_end-e.ensures.upper_bound c.if-e-input.false)
    c.loop-many-test.true (omega (arith, c.line_end-e.ensures.value)) c.no_line-held.ensures c.put_line.ensures

pub returns : goal.returns
returns c =
    going_full _ _ _ _ _ _ _ c.loop-many.invariant _ c.loop-many-test.false c.hold-2.ensures
