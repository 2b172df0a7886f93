-- `reader::frame::tick_line` meets its contract: the first field that is wrong is told, and where none
-- is, the numbers of the fields are what the line says. Assumes nothing.
use Rattle.text.specs.Line.{tick_form}
use Rattle.reader.proofs.Line.{lined}
use Rattle.reader.proofs.FrameText.{frame_tick_wrong, frame_tick_read}
use Rattle.reader.proofs.frame.tick_line.Goals as goal

pub returns-in-Some : goal.returns-in-Some
unfolding tick_form
returns-in-Some c =
    let a = c.args in
    lined tick_form a.text.now a.from c.read_fields-f.result c.read_fields-f.ensures _ _
    (frame_tick_wrong a.text.now a.from c.read_fields-f.result c.read_fields-f.ensures _
    c.in-Some.is)

pub returns-in-None : goal.returns-in-None
unfolding tick_form
returns-in-None c =
    let a = c.args in
    lined tick_form a.text.now a.from c.read_fields-f.result c.read_fields-f.ensures _ _
    (frame_tick_read a.text.now a.from c.read_fields-f.result c.read_fields-f.ensures
    c.in-None.is)
