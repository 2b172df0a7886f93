-- The contracts of crates lines, cutter and printer settle what they answer and what they leave in the lent room: two
-- outcomes that one of them allows equal the same definition's value. Assumes nothing.
use mathlib.Core.Path.{refl, ap, sym, ◌∙◌}
use Rattle.lines.proofs.smaller_of
use Rattle.lines.proofs.lines_at_once
use Rattle.cutter.proofs.no_line
use Rattle.cutter.proofs.cut_lines
use Rattle.printer.proofs.print_lines
use Rattle.printer.proofs.put_another
use Rattle.printer.proofs.put_refused
use Rattle.outcomes.specs.OneOutcome.{OneOutcome}
use Rattle.outcomes.proofs.OneOutcome.{settled}

pub smaller_of_settled : OneOutcome smaller_of.Kinds.ps smaller_of.Kinds.r smaller_of.Reads.Asked smaller_of.Reads.Learnt
smaller_of_settled = settled (λ κs a. tt) (λ κs a x y p q. (p ∙ sym q, refl))

pub lines_at_once_settled : OneOutcome lines_at_once.Kinds.ps lines_at_once.Kinds.r lines_at_once.Reads.Asked lines_at_once.Reads.Learnt
lines_at_once_settled = settled (λ κs a. tt) (λ κs a x y p q. (p ∙ sym q, refl))

pub no_line_settled : OneOutcome no_line.Kinds.ps no_line.Kinds.r no_line.Reads.Asked no_line.Reads.Learnt
no_line_settled = settled (λ κs a. tt) (λ κs a x y p q. (p ∙ sym q, refl))

pub cut_lines_settled : OneOutcome cut_lines.Kinds.ps cut_lines.Kinds.r cut_lines.Reads.Asked cut_lines.Reads.Learnt
cut_lines_settled = settled (λ κs a. tt) (λ κs a x y p q.
    (ap (λ v. v.cut) (p ∙ sym q), ap (λ v. (tt, (tt, (v.room, tt)))) (p ∙ sym q)))

pub print_lines_settled : OneOutcome print_lines.Kinds.ps print_lines.Kinds.r print_lines.Reads.Asked print_lines.Reads.Learnt
print_lines_settled = settled (λ κs a. tt) (λ κs a x y p q.
    (ap (λ v. v.printed) (p ∙ sym q), ap (λ v. (tt, (tt, (v.room, tt)))) (p ∙ sym q)))

pub put_another_settled : OneOutcome put_another.Kinds.ps put_another.Kinds.r put_another.Reads.Asked put_another.Reads.Learnt
put_another_settled = settled (λ κs a. tt) (λ κs a x y p q.
    (p.ends ∙ sym q.ends, ap (λ w. (w, (tt, tt))) (p.leaves ∙ sym q.leaves)))

pub put_refused_settled : OneOutcome put_refused.Kinds.ps put_refused.Kinds.r put_refused.Reads.Asked put_refused.Reads.Learnt
put_refused_settled = settled (λ κs a. tt) (λ κs a x y p q.
    (p.ends ∙ sym q.ends, ap (λ w. (tt, (w, (tt, tt)))) (p.leaves ∙ sym q.leaves)))
