-- `verdict::Row::higher` meets its contract. The loop's invariant: the servers found are those of the
-- rows passed that delay the row. Assumes nothing.
use Rattle.verdict.proofs.Delays.{Passed}
use Rattle.verdict.proofs.Row.higher.Given as goal

abbrev pub invariant-loop-s : goal.invariant-loop-s
invariant-loop-s l = Passed l.self.table.now l.m l.self.row l.s-index l.count l.delayers
