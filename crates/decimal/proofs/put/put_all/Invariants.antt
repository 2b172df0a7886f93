-- `decimal::put::put_all` meets its contract: before byte i the first i bytes are put. Assumes nothing.
use Rattle.std.proofs.Common.{take}
use Rattle.decimal.specs.Room.{Put}
use Rattle.decimal.proofs.put.put_all.Given as goal

abbrev pub invariant-loop-b : goal.invariant-loop-b
invariant-loop-b l = Put (take l.b-index l.text) l.initial.room l.at l.room l.k
