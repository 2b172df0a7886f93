-- `slots::the_frame` meets its contract: the array is the rule's list, compared slot by slot.
-- Assumes nothing.
use mathlib.Core.Path.{refl}
use Rattle.laws.specs.Rows.{listed}
use Rattle.slots.specs.Frame.{rule_of, the_frame}
use Rattle.slots.proofs.the_frame.Goals as goal

pub returns : goal.returns
unfolding the_frame listed rule_of
returns c = refl
