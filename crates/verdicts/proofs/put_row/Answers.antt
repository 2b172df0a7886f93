-- `verdicts::put_row` meets its contract: the line field by field. Assumes nothing.
use Rattle.verdicts.proofs.Page.{row_put}
use Rattle.verdicts.proofs.put_row.Goals as goal

pub returns : goal.returns
returns c =
    let a = c.args in
    row_put a.row a.v c.put_number-k.ensures c.put_byte-k.ensures c.put_field-k.ensures
    c.put_field-k-2.ensures c.put_verdict-k.ensures
    c.put_byte.ensures
