-- `cutter::put_short` meets its contract: sums and products of tests are what is stored. Assumes
-- nothing.
use Rattle.std.proofs.Common.{rules}
use Rattle.cutter.proofs.Inner.{short_stored}
use Rattle.cutter.proofs.put_short.Goals as goal

pub returns : goal.returns
returns c =
    let a = c.args in
    let d = c.requires.digit_value in
    rw c.from-v.ensures
    (short_stored a.letter a.digit d.0 d.1 a.lines.now a.at _ _ _ (search rules) (search rules) (search rules))
