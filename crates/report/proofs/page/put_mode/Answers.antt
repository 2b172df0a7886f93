-- `report::page::put_mode` meets its contract: the line field by field. Assumes nothing.
use Rattle.report.proofs.Inner.Page.{mode_put}
use Rattle.report.proofs.page.put_mode.Goals as goal

pub returns : goal.returns
returns c =
    mode_put c.args.word.now c.args.x c.requires c.put_all-k.ensures c.put_byte-k.ensures
    c.put_all-k-2.ensures c.put_field-k.ensures c.put_byte.ensures
