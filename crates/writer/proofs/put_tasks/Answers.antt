-- `writer::put_tasks` meets its contract: before row i the lines of the first i rows are put.
-- Assumes nothing.
use native.Mathlib.Omega.{arith}
use Rattle.writer.proofs.Write.{put_next_task, no_tasks}
use Rattle.writer.proofs.put_tasks.Goals as goal

pub loop-x-init : goal.loop-x-init
loop-x-init c = let a = c.args in no_tasks a.tick.0 a.room.now a.at

pub loop-x-preserved : goal.loop-x-preserved
loop-x-preserved c =
    put_next_task c.args.tick.0 c.args.ks.now c.loop-x.x-index (omega arith) c.loop-x.invariant
    c.put_task-k.ensures
