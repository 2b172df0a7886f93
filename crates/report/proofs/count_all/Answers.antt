-- `report::count_all` meets its contract: before each turn what was read is some file. Assumes nothing.
use Rattle.report.specs.Pieces.{standing}
use Rattle.report.proofs.Pieces.{some_then, whole_then}
use Rattle.report.proofs.count_all.Goals as goal

pub loop-preserved : goal.loop-preserved
loop-preserved g c =
    let a = c.args in
    let l = c.loop in
    some_then (standing a.n a.counts.now) (standing l.m l.counts) l.invariant c.next-m.ensures

pub returns-then-not-goes_on : goal.returns-then-not-goes_on
returns-then-not-goes_on g c =
    let a = c.args in
    let l = c.loop in
    rw c.whole.ensures
    (whole_then (standing a.n a.counts.now) _ _ _
    (some_then (standing a.n a.counts.now) (standing l.m l.counts) l.invariant c.next-m.ensures))
