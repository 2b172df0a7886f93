-- The contracts of crate slots settle what they answer: two outcomes that one of them allows equal
-- the same definition's value. Assumes nothing.
use mathlib.Core.Path.{refl, sym, ◌∙◌}
use Rattle.slots.proofs.the_frame
use Rattle.slots.proofs.slot_in
use Rattle.slots.proofs.owner_of
use Rattle.outcomes.specs.OneOutcome.{OneOutcome}
use Rattle.outcomes.proofs.OneOutcome.{settled}

pub the_frame_settled : OneOutcome the_frame.Kinds.ps the_frame.Kinds.r the_frame.Reads.Asked the_frame.Reads.Learnt
the_frame_settled = settled (λ κs a. tt) (λ κs a x y p q. (p ∙ sym q, refl))

pub slot_in_settled : OneOutcome slot_in.Kinds.ps slot_in.Kinds.r slot_in.Reads.Asked slot_in.Reads.Learnt
slot_in_settled = settled (λ κs a. tt) (λ κs a x y p q. (p ∙ sym q, refl))

pub owner_of_settled : OneOutcome owner_of.Kinds.ps owner_of.Kinds.r owner_of.Reads.Asked owner_of.Reads.Learnt
owner_of_settled = settled (λ κs a. tt) (λ κs a x y p q. (p ∙ sym q, refl))
