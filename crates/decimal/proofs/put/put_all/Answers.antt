-- `decimal::put::put_all` meets its contract: before byte i the first i bytes are put. Assumes nothing.
use Rattle.std.proofs.Common.{arith}
use Rattle.decimal.proofs.Room.{put_next}
use Rattle.decimal.proofs.put.put_all.Goals as goal

pub loop-b-preserved : goal.loop-b-preserved
loop-b-preserved c = put_next c.args.text.now c.loop-b.b-index (omega arith) c.loop-b.invariant c.put_byte-k.ensures
