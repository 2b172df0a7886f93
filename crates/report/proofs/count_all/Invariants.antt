-- `report::count_all` meets its contract: before each turn what was read is some file. Assumes nothing.
use Rattle.report.specs.Pieces.{standing, ReadsSome}
use Rattle.report.proofs.count_all.Given as goal

abbrev pub invariant-loop : goal.invariant-loop
invariant-loop g l =
    ReadsSome (standing l.initial.m l.initial.counts) (standing l.m l.counts)
