-- The contracts of crate decimal settle what they answer and what they leave in the lent room: two
-- outcomes that one of them allows equal the same definition's value. Assumes nothing.
use mathlib.Core.Path.{refl, ap, sym, ◌∙◌}
use Rattle.decimal.proofs.read_number
use Rattle.decimal.proofs.field_end
use Rattle.decimal.proofs.read_field
use Rattle.decimal.proofs.find
use Rattle.decimal.proofs.is_same
use Rattle.decimal.proofs.put.put_byte
use Rattle.decimal.proofs.put.put_all
use Rattle.decimal.proofs.put.spell
use Rattle.decimal.proofs.put.put_number
use Rattle.outcomes.specs.OneOutcome.{OneOutcome}
use Rattle.outcomes.proofs.OneOutcome.{settled}

pub read_number_settled : OneOutcome read_number.Kinds.ps read_number.Kinds.r read_number.Reads.Asked read_number.Reads.Learnt
read_number_settled = settled (λ κs a. tt) (λ κs a x y p q. (p ∙ sym q, refl))

pub field_end_settled : OneOutcome field_end.Kinds.ps field_end.Kinds.r field_end.Reads.Asked field_end.Reads.Learnt
field_end_settled = settled (λ κs a. tt) (λ κs a x y p q. (p ∙ sym q, refl))

pub read_field_settled : OneOutcome read_field.Kinds.ps read_field.Kinds.r read_field.Reads.Asked read_field.Reads.Learnt
read_field_settled = settled (λ κs a. tt) (λ κs a x y p q. (p ∙ sym q, refl))

pub find_settled : OneOutcome find.Kinds.ps find.Kinds.r find.Reads.Asked find.Reads.Learnt
find_settled = settled (λ κs a. tt) (λ κs a x y p q. (p.0 ∙ sym q.0, refl))

pub is_same_settled : OneOutcome is_same.Kinds.ps is_same.Kinds.r is_same.Reads.Asked is_same.Reads.Learnt
is_same_settled = settled (λ κs a. tt) (λ κs a x y p q. (p ∙ sym q, refl))

pub put_byte_settled : OneOutcome put_byte.Kinds.ps put_byte.Kinds.r put_byte.Reads.Asked put_byte.Reads.Learnt
put_byte_settled = settled (λ κs a. tt) (λ κs a x y p q.
    (p.ends ∙ sym q.ends, ap (λ w. (tt, (w, (tt, tt)))) (p.leaves ∙ sym q.leaves)))

pub put_all_settled : OneOutcome put_all.Kinds.ps put_all.Kinds.r put_all.Reads.Asked put_all.Reads.Learnt
put_all_settled = settled (λ κs a. tt) (λ κs a x y p q.
    (p.ends ∙ sym q.ends, ap (λ w. (tt, (w, (tt, tt)))) (p.leaves ∙ sym q.leaves)))

pub spell_settled : OneOutcome spell.Kinds.ps spell.Kinds.r spell.Reads.Asked spell.Reads.Learnt
spell_settled = settled (λ κs a. tt) (λ κs a x y p q.
    (ap (λ v. v.first) (p ∙ sym q), ap (λ v. (tt, (v.text, tt))) (p ∙ sym q)))

pub put_number_settled : OneOutcome put_number.Kinds.ps put_number.Kinds.r put_number.Reads.Asked put_number.Reads.Learnt
put_number_settled = settled (λ κs a. tt) (λ κs a x y p q.
    (p.ends ∙ sym q.ends, ap (λ w. (tt, (w, (tt, tt)))) (p.leaves ∙ sym q.leaves)))
