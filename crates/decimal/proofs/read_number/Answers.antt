-- `decimal::read_number` meets its contract: bytes of which the first field is not all are no number.
-- Assumes nothing.
use Rattle.decimal.proofs.Inner.{number_not_all, number_all}
use Rattle.decimal.proofs.read_number.Goals as goal

pub returns-then-f-s : goal.returns-then-f-s
returns-then-f-s c =
    number_not_all c.args.s.now c.read_field-f.result c.read_field-f.ensures
    c.if-f-s.true

pub returns : goal.returns
returns c =
    number_all c.args.s.now c.read_field-f.result c.read_field-f.ensures
    c.if-f-s.false
