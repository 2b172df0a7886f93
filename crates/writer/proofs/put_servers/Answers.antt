-- `writer::put_servers` meets its contract: before row i the lines of the first i rows are put.
-- Assumes nothing.
use native.Mathlib.Omega.{arith}
use Rattle.writer.proofs.Write.{put_next_server, no_servers}
use Rattle.writer.proofs.put_servers.Goals as goal

pub loop-s-init : goal.loop-s-init
loop-s-init c = let a = c.args in no_servers a.tick.0 a.room.now a.at

pub loop-s-preserved : goal.loop-s-preserved
loop-s-preserved c =
    put_next_server c.args.tick.0 c.args.ss.now c.loop-s.s-index (omega arith) c.loop-s.invariant
    c.put_server-k.ensures
