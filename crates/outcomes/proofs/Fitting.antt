-- The contract of crate fitting settles what it answers: two outcomes that it allows equal the same
-- definition's value. Assumes nothing.
use mathlib.Core.Path.{refl, sym, ◌∙◌}
use Rattle.fitting.proofs.run_fits
use Rattle.outcomes.specs.OneOutcome.{OneOutcome}
use Rattle.outcomes.proofs.OneOutcome.{settled}

pub run_fits_settled : OneOutcome run_fits.Kinds.ps run_fits.Kinds.r run_fits.Reads.Asked run_fits.Reads.Learnt
run_fits_settled = settled (λ κs a. tt) (λ κs a x y p q. (p ∙ sym q, refl))
