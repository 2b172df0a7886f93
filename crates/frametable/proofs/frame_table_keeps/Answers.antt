-- `frametable::frame_table_keeps` meets its contract: the tests that it asks in a row are those of
-- the rules. Assumes nothing.
use native.Mathlib.Omega.{arith}
use Rattle.frametable.proofs.Inner.{tests-decide}
use Rattle.frametable.proofs.frame_table_keeps.Goals as goal

pub returns-then-frame_tasks_keep : goal.returns-then-frame_tasks_keep
returns-then-frame_tasks_keep c =
    let e = tests-decide c.args.t (omega arith) in
    grind (arith, e)

pub returns-else-frame_tasks_keep : goal.returns-else-frame_tasks_keep
returns-else-frame_tasks_keep c =
    let e = tests-decide c.args.t (omega arith) in
    grind (arith, e)
