-- `reader::forms::task_line` meets its contract: the first field that is wrong is told, and where
-- none is, the numbers of the fields are what the line says. Assumes nothing.
use Rattle.decimal.specs.Inner.Fields.{fields_from}
use Rattle.text.specs.declared.Line.TheVariants.{OfTask}
use Rattle.text.specs.Line.{task_form, task_said, line_by}
use Rattle.reader.proofs.Line.{lined, form_not, task_read}
use Rattle.reader.proofs.forms.task_line.Goals as goal

pub returns-in-Some : goal.returns-in-Some
unfolding task_form line_by
returns-in-Some c =
    let a = c.args in
    form_not task_form a.text.now a.from c.read_fields-f.result c.read_fields-f.ensures
    (OfTask (task_said (fields_from a.text.now a.from))) _
    c.in-Some.is

pub returns-in-None : goal.returns-in-None
unfolding task_form line_by
returns-in-None c =
    let a = c.args in
    lined task_form a.text.now a.from c.read_fields-f.result c.read_fields-f.ensures _ _
    (task_read a.text.now a.from c.read_fields-f.result c.level_at.result c.level_at.ensures
    c.read_fields-f.ensures c.in-None.is)
