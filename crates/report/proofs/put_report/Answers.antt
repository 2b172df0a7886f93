-- `report::put_report` meets its contract: the page of the numbers that stand is the page of the file.
-- Assumes nothing.
use Rattle.report.specs.Pieces.{Stand, standing}
use Rattle.report.proofs.Pieces.{after_few, page_of}
use Rattle.report.proofs.put_report.Goals as goal
use Rattle.report.proofs.put_report.Goals.{Start}

-- what stands
abbrev stands : Start → Stand
stands s = standing s.args.n s.args.counts.now

pub put_page-requires-clause-nservers_bound : goal.put_page-requires-clause-nservers_bound
put_page-requires-clause-nservers_bound c =
    let a = c.requires.after_some in
    after_few a.0 a.1 (stands (goal.at.put_page-requires-clause-nservers_bound c).Start) a.2

pub returns : goal.returns
returns c = page_of (stands (goal.at.returns c).Start) _ c.put_page.ensures
