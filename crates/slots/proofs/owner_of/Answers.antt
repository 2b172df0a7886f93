-- `slots::owner_of` meets its contract: the frame is the rule's, and its slot is the tick's owner.
-- Assumes nothing.
use mathlib.Core.Path.{◌∙◌}
use Rattle.slots.proofs.Frame.{owner_in}
use Rattle.slots.proofs.owner_of.Goals as goal

pub returns : goal.returns
returns c =
    c.slot_in.ensures ∙ owner_in _ c.args.tick c.the_frame.ensures
