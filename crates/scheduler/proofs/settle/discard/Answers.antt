-- `scheduler::settle::discard` meets its contract: nothing is discarded, or the jobs of every LO
-- task are. Assumes nothing.
use mathlib.Core.Path.{sym, ◌∙◌}
use Rattle.scheduler.proofs.Inner.Steps.{discards_not, discards_entered}
use Rattle.scheduler.proofs.settle.discard.Goals as goal

pub returns-then-not-enters_d2 : goal.returns-then-not-enters_d2
returns-then-not-enters_d2 c =
    let a = c.args in
    discards_not a.sheets.now a.before a.state.now _ c.requires.1 (sym c.enters_d2.ensures ∙ c.if-not-enters_d2.true)

pub returns : goal.returns
returns c =
    let a = c.args in
    discards_entered a.sheets.now a.before a.state.now _ _ _ _ (sym c.enters_d2.ensures ∙ c.if-not-enters_d2.false)
    c.drop_low.ensures.0 c.drop_low.ensures.1 c.drop_low.ensures.2 c.drop_low.ensures.3
