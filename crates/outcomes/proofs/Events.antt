-- The contracts of crate events settle what they answer and what they leave in the lent room: two
-- outcomes that one of them allows equal the same definition's value. Assumes nothing.
use mathlib.Core.Path.{refl, ap, sym, ◌∙◌}
use Rattle.events.proofs.line_said
use Rattle.events.proofs.told_of
use Rattle.events.proofs.told_values
use Rattle.events.proofs.put_told
use Rattle.outcomes.specs.OneOutcome.{OneOutcome}
use Rattle.outcomes.proofs.OneOutcome.{settled}

pub line_said_settled : OneOutcome line_said.Kinds.ps line_said.Kinds.r line_said.Reads.Asked line_said.Reads.Learnt
line_said_settled = settled (λ κs a. tt) (λ κs a x y p q. (p ∙ sym q, refl))

pub told_of_settled : OneOutcome told_of.Kinds.ps told_of.Kinds.r told_of.Reads.Asked told_of.Reads.Learnt
told_of_settled = settled (λ κs a. tt) (λ κs a x y p q. (p ∙ sym q, refl))

pub told_values_settled : OneOutcome told_values.Kinds.ps told_values.Kinds.r told_values.Reads.Asked told_values.Reads.Learnt
told_values_settled = settled (λ κs a. tt) (λ κs a x y p q. (p ∙ sym q, refl))

pub put_told_settled : OneOutcome put_told.Kinds.ps put_told.Kinds.r put_told.Reads.Asked put_told.Reads.Learnt
put_told_settled = settled (λ κs a. tt) (λ κs a x y p q. (refl, ap (λ w. (tt, (w, (tt, tt)))) (p ∙ sym q)))
