-- `scheduler::settle::settle_mode` meets its contract. Assumes nothing.
use mathlib.Core.Path.{sym, ◌∙◌}
use borrow.Author.Rules.{rules}
use denote.Enum.Bare.{same_true}
use Rattle.table.specs.contracts.Mode.{the_type}
use Rattle.scheduler.proofs.Inner.Steps.{mode_in_n, mode_stays, mode_falls}
use Rattle.scheduler.proofs.settle.settle_mode.Goals as goal

pub returns-then-eq : goal.returns-then-eq
returns-then-eq c =
    mode_in_n c.args.sheets.now c.args.state.now
    (same_true the_type (search rules) _ _ (sym c.eq.ensures ∙ c.if-eq.true))

pub returns-then-not-some_waits : goal.returns-then-not-some_waits
returns-then-not-some_waits c =
    mode_falls c.args.sheets.now c.args.state.now (sym c.some_waits.ensures ∙ c.if-not-some_waits.true)

pub returns-else-not-some_waits : goal.returns-else-not-some_waits
returns-else-not-some_waits c =
    mode_stays c.args.sheets.now c.args.state.now (sym c.some_waits.ensures ∙ c.if-not-some_waits.false)
