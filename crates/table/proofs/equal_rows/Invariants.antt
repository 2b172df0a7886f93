use Rattle.std.proofs.Common.{None, ◌≡◌, ◌+◌, map}
use Rattle.table.proofs.Pairs.{Sought}
use Rattle.table.proofs.equal_rows.Given as goal

abbrev pub invariant-loop-j : goal.invariant-loop-j
invariant-loop-j g l = (l.answer ≡ None) × Sought (map g.T.HasPriority.priority_of l.rows) l.i (l.i + 1 + l.j)

abbrev pub invariant-rows : goal.invariant-rows
invariant-rows g l = (l.answer ≡ None) × Sought (map g.T.HasPriority.priority_of l.rows) l.i (l.i + 1)
