-- The contracts of crate verdict settle what they answer: two outcomes that one of them allows
-- equal the same definition's value. Assumes nothing.
use mathlib.Core.Path.{refl, sym, ◌∙◌}
use Rattle.verdict.proofs.verdict_of
use Rattle.verdict.proofs.verdicts_of
use Rattle.verdict.proofs.fits_of
use Rattle.outcomes.specs.OneOutcome.{OneOutcome}
use Rattle.outcomes.proofs.OneOutcome.{settled}

pub verdict_of_settled : OneOutcome verdict_of.Kinds.ps verdict_of.Kinds.r verdict_of.Reads.Asked verdict_of.Reads.Learnt
verdict_of_settled = settled (λ κs a. tt) (λ κs a x y p q. (p ∙ sym q, refl))

pub verdicts_of_settled : OneOutcome verdicts_of.Kinds.ps verdicts_of.Kinds.r verdicts_of.Reads.Asked verdicts_of.Reads.Learnt
verdicts_of_settled = settled (λ κs a. tt) (λ κs a x y p q. (p ∙ sym q, refl))

pub fits_of_settled : OneOutcome fits_of.Kinds.ps fits_of.Kinds.r fits_of.Reads.Asked fits_of.Reads.Learnt
fits_of_settled = settled (λ κs a. tt) (λ κs a x y p q. (p ∙ sym q, refl))
