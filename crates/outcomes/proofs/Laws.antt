-- The contracts of crate laws settle what they answer: two outcomes that one of them allows equal
-- the same definition's value. Assumes nothing.
use mathlib.Core.Path.{refl, sym, ◌∙◌}
use Rattle.laws.proofs.all_of
use Rattle.laws.proofs.first_failed
use Rattle.laws.proofs.is_within
use Rattle.laws.proofs.larger_of
use Rattle.outcomes.specs.OneOutcome.{OneOutcome}
use Rattle.outcomes.proofs.OneOutcome.{settled}

pub all_of_settled : OneOutcome all_of.Kinds.ps all_of.Kinds.r all_of.Reads.Asked all_of.Reads.Learnt
all_of_settled = settled (λ κs a. tt) (λ κs a x y p q. (p ∙ sym q, refl))

pub first_failed_settled : OneOutcome first_failed.Kinds.ps first_failed.Kinds.r first_failed.Reads.Asked first_failed.Reads.Learnt
first_failed_settled = settled (λ κs a. tt) (λ κs a x y p q. (p ∙ sym q, refl))

pub is_within_settled : OneOutcome is_within.Kinds.ps is_within.Kinds.r is_within.Reads.Asked is_within.Reads.Learnt
is_within_settled = settled (λ κs a. tt) (λ κs a x y p q. (p ∙ sym q, refl))

pub larger_of_settled : OneOutcome larger_of.Kinds.ps larger_of.Kinds.r larger_of.Reads.Asked larger_of.Reads.Learnt
larger_of_settled = settled (λ κs a. tt) (λ κs a x y p q. (p ∙ sym q, refl))
