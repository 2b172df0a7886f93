-- `queues::last_sound` meets its contract: rows past the array have no job. Assumes nothing.
use native.Mathlib.Omega.{arith}
use Rattle.queues.proofs.Inner.{last_out}
use Rattle.queues.proofs.last_sound.Goals as goal

pub returns-then-min-k : goal.returns-then-min-k
returns-then-min-k c = last_out c.args.n _ c.args.ticks c.args.last c.in-Some.k c.in-Some.is (omega arith) (omega arith)
