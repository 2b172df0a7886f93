-- `scheduler::open` meets its contract: a sound run with the sheets of its table is one that a step
-- takes. Assumes nothing.
use mathlib.Core.Path.{sym, ◌∙◌}
use borrow.Author.Rules.{rules}
use Rattle.scheduler.proofs.Inner.Events.{sound_run}
use Rattle.scheduler.proofs.open.Goals as goal

pub returns-then-run_sound : goal.returns-then-run_sound
returns-then-run_sound c =
    let r = c.args.r in
    sound_run r.table r.state _ c.of.ensures (sym c.run_sound.ensures ∙ c.if-run_sound.true)
    (record { used = search rules; elapsed = search rules; waiting = search rules; runs = search rules })
