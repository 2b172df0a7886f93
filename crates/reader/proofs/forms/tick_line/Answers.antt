-- `reader::forms::tick_line` meets its contract: the first field that is wrong is told, and where
-- none is, the numbers of the fields are what the line says. Assumes nothing.
use Rattle.decimal.specs.Inner.Fields.{fields_from}
use Rattle.text.specs.declared.Line.TheVariants.{OfTick}
use Rattle.text.specs.Line.{tick_form, micros_at, line_by}
use Rattle.reader.proofs.Line.{lined, form_not, tick_read}
use Rattle.reader.proofs.forms.tick_line.Goals as goal

pub returns-in-Some : goal.returns-in-Some
unfolding tick_form line_by
returns-in-Some c =
    let a = c.args in
    form_not tick_form a.text.now a.from c.read_fields-f.result c.read_fields-f.ensures
    (OfTick (micros_at (fields_from a.text.now a.from) 1)) _
    c.in-Some.is

pub returns-in-None : goal.returns-in-None
unfolding tick_form line_by
returns-in-None c =
    let a = c.args in
    lined tick_form a.text.now a.from c.read_fields-f.result c.read_fields-f.ensures _ _
    (tick_read a.text.now a.from c.read_fields-f.result c.read_fields-f.ensures
    c.in-None.is)
