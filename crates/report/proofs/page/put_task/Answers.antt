-- `report::page::put_task` meets its contract: the line field by field. Assumes nothing.
use Rattle.report.proofs.Inner.Page.{task_put}
use Rattle.report.proofs.page.put_task.Goals as goal

pub returns : goal.returns
returns c =
    let a = c.args in
    task_put a.counts.now a.waiting.now a.i c.put_all-k.ensures c.put_field-k.ensures
    c.put_field-k-2.ensures c.put_field-k-3.ensures c.put_field-k-4.ensures
    (rw (c.from.ensures, c.job_count-waits.ensures.0) at c.put_field-k-5.ensures) c.put_byte.ensures
