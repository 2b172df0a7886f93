-- `decimal::is_same` meets its contract: slices are compared byte by byte. Assumes nothing.
use Rattle.std.proofs.Common.{◌∙◌}
use Rattle.decimal.proofs.Lines.{same_is}
use Rattle.decimal.proofs.is_same.Goals as goal

pub returns : goal.returns
returns c = c.eq.ensures ∙ same_is c.args.a.now c.args.b.now
