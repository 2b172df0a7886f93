-- `report::page::put_page` meets its contract: the three parts one after the other, and the room holds
-- them. Assumes nothing.
use Rattle.report.proofs.Inner.Page.{page_put}
use Rattle.report.proofs.page.put_page.Goals as goal

pub returns : goal.returns
returns c =
    let a = c.args in
    page_put a.nservers a.ntasks a.counts.now a.waiting.now
    c.requires.nservers_bound.0 c.requires.nservers_bound.1 c.requires.longest_page_in_bounds c.put_servers-k.ensures c.put_tasks-k.ensures c.put_modes.ensures
