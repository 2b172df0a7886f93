-- `decimal::put::spell` meets its contract: before each turn the digits of what is left are yet to
-- be stored (Room.antt). Assumes nothing.
use Rattle.decimal.proofs.Room.{spell_start, spell_next, spell_done}
use Rattle.decimal.proofs.put.spell.Goals as goal

pub loop-left-init : goal.loop-left-init
loop-left-init c = spell_start _ _ c.ranges.n.fits

pub loop-left-preserved : goal.loop-left-preserved
loop-left-preserved c = spell_next _ _ _ _ _ c.loop-left.invariant c.loop-left-test.true

pub returns : goal.returns
returns c = spell_done _ _ _ _ _ c.loop-left.invariant c.loop-left-test.false
