-- The contracts of crate reader settle what they answer: two outcomes that one of them allows equal
-- the same definition's value. Assumes nothing.
use mathlib.Core.Path.{refl, sym, ◌∙◌}
use Rattle.reader.proofs.read_table
use Rattle.reader.proofs.frame.read_frame
use Rattle.outcomes.specs.OneOutcome.{OneOutcome}
use Rattle.outcomes.proofs.OneOutcome.{settled}

pub read_table_settled : OneOutcome read_table.Kinds.ps read_table.Kinds.r read_table.Reads.Asked read_table.Reads.Learnt
read_table_settled = settled (λ κs a. tt) (λ κs a x y p q. (p ∙ sym q, refl))

pub read_frame_settled : OneOutcome read_frame.Kinds.ps read_frame.Kinds.r read_frame.Reads.Asked read_frame.Reads.Learnt
read_frame_settled = settled (λ κs a. tt) (λ κs a x y p q. (p ∙ sym q, refl))
