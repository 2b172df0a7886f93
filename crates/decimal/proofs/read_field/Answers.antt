-- `decimal::read_field` meets its contract: its end is looked for after its digits, and it is a
-- number if it ends there. Assumes nothing.
use Rattle.decimal.proofs.Inner.{field_past, field_longer, field_whole}
use Rattle.decimal.proofs.read_field.Goals as goal

pub returns-then-text-at : goal.returns-then-text-at
returns-then-text-at c =
    let a = c.args in
    field_past a.text.now a.at c.if-text-at.true

pub returns-then-end-d : goal.returns-then-end-d
returns-then-end-d c =
    let a = c.args in
    field_longer a.text.now a.at c.digits_at-d.result c.digits_at-d.ensures
    c.field_end-end.result c.field_end-end.ensures c.if-end-d.true

pub returns : goal.returns
returns c =
    let a = c.args in
    field_whole a.text.now a.at c.digits_at-d.result c.digits_at-d.ensures
    c.field_end-end.result c.field_end-end.ensures c.as_number-number.result c.if-end-d.false
    c.as_number-number.ensures
