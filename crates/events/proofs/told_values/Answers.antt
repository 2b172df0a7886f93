-- `events::told_values` meets its contract. Assumes nothing.
use Rattle.events.proofs.Values.{told_listed}
use Rattle.events.proofs.told_values.Goals as goal

pub returns-in-Ticked : goal.returns-in-Ticked
returns-in-Ticked c =
    rw c.in-Ticked.is (told_listed c.in-Ticked.a _ _ _ c.mode_value-mode.ensures c.turn_values.ensures c.left_values.ensures)
