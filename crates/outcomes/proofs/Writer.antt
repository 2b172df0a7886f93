-- The contract of crate writer settles what it answers and what it leaves in the lent room: two
-- outcomes that it allows equal the same definition's value. Assumes nothing.
use mathlib.Core.Path.{ap, sym, ◌∙◌}
use Rattle.writer.proofs.write_table
use Rattle.outcomes.specs.OneOutcome.{OneOutcome}
use Rattle.outcomes.proofs.OneOutcome.{settled}

pub write_table_settled : OneOutcome write_table.Kinds.ps write_table.Kinds.r write_table.Reads.Asked write_table.Reads.Learnt
write_table_settled = settled (λ κs a. tt) (λ κs a x y p q.
    (ap (λ v. v.answer) (p ∙ sym q), ap (λ v. (tt, (v.room, tt))) (p ∙ sym q)))
