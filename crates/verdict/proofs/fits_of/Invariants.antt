-- `verdict::fits_of` meets its contract: before mode k, no row misses in the modes passed. Assumes
-- nothing.
use Rattle.laws.proofs.Search.{NoneFinds}
use Rattle.verdict.proofs.Fitting.{row_in}
use Rattle.verdict.proofs.fits_of.Given as goal

abbrev pub invariant-loop-mode : goal.invariant-loop-mode
invariant-loop-mode l = NoneFinds (row_in l.t) l.mode-index
