-- `decimal::put::spell` meets its contract: before each turn the digits of what is left are yet to
-- be stored (Room.antt). Assumes nothing.
use Rattle.decimal.proofs.Room.{LastDigits}
use Rattle.decimal.proofs.put.spell.Given as goal

abbrev pub invariant-loop-left : goal.invariant-loop-left
invariant-loop-left l = LastDigits l.n l.initial.text l.text l.first l.left

abbrev pub decreases-loop-left : goal.decreases-loop-left
decreases-loop-left l = l.left
