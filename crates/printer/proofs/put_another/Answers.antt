-- `printer::put_another` meets its contract: its bytes are the line. Assumes nothing.
use Rattle.decimal.specs.Number.{digits, digits_in}
use Rattle.decimal.specs.Lines.{join}
use Rattle.printer.proofs.put_another.Goals as goal

pub returns : goal.returns
unfolding digits digits_in join
returns c = c.put_all.ensures
