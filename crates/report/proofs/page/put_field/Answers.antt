-- `report::page::put_field` meets its contract: the tab, then the number. Assumes nothing.
use Rattle.report.proofs.Inner.Page.{field_put}
use Rattle.report.proofs.page.put_field.Goals as goal

pub returns : goal.returns
returns c =
    field_put c.args.x c.ranges.x.fits c.put_byte-k.ensures c.put_number.ensures
