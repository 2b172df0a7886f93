-- `reader::forms::server_line` meets its contract: the first field that is wrong is told, and where
-- none is, the numbers of the fields are what the line says. Assumes nothing.
use Rattle.decimal.specs.Inner.Fields.{fields_from}
use Rattle.text.specs.declared.Line.TheVariants.{OfServer}
use Rattle.text.specs.Line.{server_form, server_said, line_by}
use Rattle.reader.proofs.Line.{lined, form_not, server_read}
use Rattle.reader.proofs.forms.server_line.Goals as goal

pub returns-in-Some : goal.returns-in-Some
unfolding server_form line_by
returns-in-Some c =
    let a = c.args in
    form_not server_form a.text.now a.from c.read_fields-f.result c.read_fields-f.ensures
    (OfServer (server_said (fields_from a.text.now a.from))) _
    c.in-Some.is

pub returns-in-None : goal.returns-in-None
unfolding server_form line_by
returns-in-None c =
    let a = c.args in
    lined server_form a.text.now a.from c.read_fields-f.result c.read_fields-f.ensures _ _
    (server_read a.text.now a.from c.read_fields-f.result c.kind_at.result c.last_at.result
    c.kind_at.ensures c.last_at.ensures c.read_fields-f.ensures c.in-None.is)
