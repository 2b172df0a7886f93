-- `table::table_keeps` meets its contract: the tests that it asks in a row are those of the rules.
-- Assumes nothing.
use Rattle.std.proofs.Common.{arith}
use Rattle.table.proofs.Inner.{table_tests}
use Rattle.table.proofs.table_keeps.Goals as goal

pub returns-then-is_none : goal.returns-then-is_none
returns-then-is_none c =
    let e = table_tests c.args.t (omega arith) (omega arith) in
    grind (arith, e)

pub returns-else-is_none : goal.returns-else-is_none
returns-else-is_none c =
    let e = table_tests c.args.t (omega arith) (omega arith) in
    grind arith
