-- `cutter::cut_first` meets its contract: what is cut in all is what stands, and what is cut
-- from the rest (Cutting.antt). Assumes nothing.
use Rattle.lines.proofs.Cutting.{Going}
use Rattle.cutter.proofs.cut_first.Given as goal

abbrev pub invariant-loop-many : goal.invariant-loop-many
invariant-loop-many l = Going l.initial.held l.input l.initial.lines l.held l.lines l.at l.many
