-- The contracts of crate frametable settle what they answer: two outcomes that one of them allows
-- equal the same definition's value. Assumes nothing.
use mathlib.Core.Path.{refl, sym, ◌∙◌}
use Rattle.frametable.proofs.no_frame_table
use Rattle.frametable.proofs.equal_frame_tasks
use Rattle.frametable.proofs.frame_table_keeps
use Rattle.outcomes.specs.OneOutcome.{OneOutcome}
use Rattle.outcomes.proofs.OneOutcome.{settled}

pub no_frame_table_settled : OneOutcome no_frame_table.Kinds.ps no_frame_table.Kinds.r no_frame_table.Reads.Asked no_frame_table.Reads.Learnt
no_frame_table_settled = settled (λ κs a. tt) (λ κs a x y p q. (p ∙ sym q, refl))

pub equal_frame_tasks_settled : OneOutcome equal_frame_tasks.Kinds.ps equal_frame_tasks.Kinds.r equal_frame_tasks.Reads.Asked equal_frame_tasks.Reads.Learnt
equal_frame_tasks_settled = settled (λ κs a. tt) (λ κs a x y p q. (p ∙ sym q, refl))

pub frame_table_keeps_settled : OneOutcome frame_table_keeps.Kinds.ps frame_table_keeps.Kinds.r frame_table_keeps.Reads.Asked frame_table_keeps.Reads.Learnt
frame_table_keeps_settled = settled (λ κs a. tt) (λ κs a x y p q. (p ∙ sym q, refl))
