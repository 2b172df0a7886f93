-- `report::page::put_server` meets its contract: the line field by field. Assumes nothing.
use Rattle.report.proofs.Inner.Page.{server_put}
use Rattle.report.proofs.page.put_server.Goals as goal

pub returns : goal.returns
returns c =
    let a = c.args in
    server_put a.counts.now a.i c.put_all-k.ensures c.put_field-k.ensures
    (rw c.from.ensures at c.put_field-k-2.ensures)
    (rw c.from-2.ensures at c.put_field-k-3.ensures)
    (rw c.from-3.ensures at c.put_field-k-4.ensures) c.put_byte.ensures
