-- `verdict::least_row` meets its contract: before row i, none of the rows passed misses. Assumes
-- nothing.
use Rattle.verdict.proofs.Fitting.{NoneMisses}
use Rattle.verdict.proofs.least_row.Given as goal

abbrev pub invariant-loop-row : goal.invariant-loop-row
invariant-loop-row l = NoneMisses l.t l.m l.row
